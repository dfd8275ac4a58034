-- `sequences::pick` meets its contract. Assumes nothing.
use Rattle.std.proofs.Common.{◌≡◌, ap, ap₂, ◌∙◌, ℕ, ◌+◌, ◌-◌, arith}
use Rattle.sequences.specs.SlotOrder.{leaf_at, passed_from, served_from, position_after, next_from}
use Rattle.sequences.specs.declared.Slot.{Slot}
use Rattle.sequences.proofs.Stepping.{column_small, position_small, served, digits_small}
use Rattle.sequences.proofs.pick.Goals as goal
use Rattle.sequences.proofs.pick.Goals.{After-bit-passed}

pub bit-passed-requires : goal.bit-passed-requires
bit-passed-requires c = omega (arith, column_small c.args.c c.args.p c.requires)

pub overflow_add-served : goal.overflow_add-served
overflow_add-served c = omega (arith, position_small c.args.c c.args.p c.requires)

-- The terms passed over, and the position served.
passed_is : (c : After-bit-passed) → 1 - c.bit-passed.result ≡ passed_from c.args.c c.args.p
unfolding passed_from
passed_is c = cc

served_is : (c : After-bit-passed) → c.args.p + (1 - c.bit-passed.result) ≡ served_from c.args.c c.args.p
unfolding served_from
served_is c = ap (λ (d : ℕ). c.args.p + d) (passed_is c)

pub leaf-requires : goal.leaf-requires
leaf-requires c =
    let e = served_is c in
    let s = (served c.args.c c.args.p c.requires).here in
    omega arith

pub position_after-requires : goal.position_after-requires
position_after-requires c =
    let s = served c.args.c c.args.p c.requires in
    (omega (arith, digits_small c.args.c c.requires.some c.requires.few), rw (served_is (goal.at.position_after-requires c).After-bit-passed, c.digits.ensures) s.here.last)

-- Slots are equal by their fields.
slot_same : {l m d e n o : ℕ} → l ≡ m → d ≡ e → n ≡ o → ◌≡◌ {A = Slot} (record { leaf = l; passed = d; next = n }) (record { leaf = m; passed = e; next = o })
slot_same a b c = cc

pub returns : goal.returns
unfolding next_from
returns c =
    slot_same (c.leaf.ensures ∙ ap (leaf_at c.args.c) (served_is (goal.at.returns c).After-bit-passed)) (passed_is (goal.at.returns c).After-bit-passed)
    (c.position_after.ensures ∙ ap₂ position_after c.digits.ensures (served_is (goal.at.returns c).After-bit-passed))
