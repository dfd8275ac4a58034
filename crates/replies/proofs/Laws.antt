-- A reply is told by its record and its answer. Assumes nothing.
use mathlib.Core.Path.{◌≡◌, ap, ap₂, ◌∙◌}
use Rattle.calls.specs.Answers.{Answer}
use Rattle.calls.specs.declared.Drive.{Drive}
use Rattle.calls.specs.declared.Returned.{Returned}
use Rattle.replies.specs.declared.Reply.{Reply}
use Rattle.replies.specs.Replies.{reply}

-- the reply of a call's result r, of which the call promises that it is s and that its answer is b
pub replied : {R : Type 0} (drive : R → Drive) {r s : R} {x : Reply} {a b : Answer} → x ≡ reply (drive r) a → r ≡ s → a ≡ b → x ≡ reply (drive s) b
replied drive p q e = p ∙ ap₂ reply (ap drive q) e

-- what the conversion makes of a call's result r, by its own promise: of r the call promises that its record is d, and that its answer says b
pub converted : {A : Type 0} (says : A → Answer) {r : Returned A} {x : Reply} {d : Drive} {b : Answer} → x ≡ reply r.drive (says r.answer) → r.drive ≡ d → says r.answer ≡ b → x ≡ reply d b
converted says p q e = p ∙ ap₂ reply q e
