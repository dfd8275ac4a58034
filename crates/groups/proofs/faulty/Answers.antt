-- `groups::faulty` meets its contract. Assumes nothing.
use Rattle.std.proofs.Common.{◌≡◌, false, suc, length, arith}
use Rattle.std.proofs.lemmas.Bool.Decides.{nat_tests}
use Rattle.sequences.proofs.Laws.{shift_exact}
use Rattle.groups.specs.Table.{faulty, any_from, bad_list}
use Rattle.groups.proofs.Faults.{rises}
use Rattle.groups.proofs.faulty.Goals as goal

pub offset_of-requires : goal.offset_of-requires
offset_of-requires c =
    let a = c.args in
    let size : length a.starts.now ≡ suc a.k = grind arith in
    let none : any_from (bad_list a.k a.starts.now) 0 a.k ≡ false = grind arith in
    (c.requires, omega arith, rises _ _ size none)

pub returns-then-names-offset_of : goal.returns-then-names-offset_of
unfolding faulty
returns-then-names-offset_of c = let z = shift_exact c.args.k (omega (arith, c.requires)) in grind (arith, nat_tests)

pub returns-else-names-offset_of : goal.returns-else-names-offset_of
unfolding faulty
returns-else-names-offset_of c = let z = shift_exact c.args.k (omega (arith, c.requires)) in grind (arith, nat_tests)
