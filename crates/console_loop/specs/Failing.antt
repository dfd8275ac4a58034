-- Which failures of a read or a write pass. Assumes nothing.
use Rattle.std.specs.Prelude.{Bool, true, false, cond, ℤ, pos, negsuc, eqb}

-- A call that a signal interrupted (EINTR, 4) or that would have blocked (EAGAIN, 11) is made again; any other error stays.
abbrev pub passing_error : ℤ → Bool
passing_error (pos n) = cond (eqb n 4) true (eqb n 11)
passing_error (negsuc _) = false
