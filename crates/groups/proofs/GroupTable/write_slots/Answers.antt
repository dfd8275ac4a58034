-- `groups::GroupTable::write_slots` meets its contract. Assumes nothing.
use Rattle.std.proofs.Common.{◌≡◌, refl, ◌∙◌, ℕ, ◌*◌, ◌%◌, ◌^◌, ◌≤◌, arith, replicate, length-set, pow_mono}
use Rattle.sequences.specs.Sequences.{rb}
use Rattle.sequences.proofs.Laws.{shift_exact}
use Rattle.groups.proofs.Rounding.{heads}
use Rattle.groups.proofs.Pointers.{moved_pointing}
use Rattle.groups.proofs.RoundSteps.{written_none, written_more, after_more, after_none, written_all}
use Rattle.groups.proofs.GroupTable.write_slots.Goals as goal
use Rattle.groups.proofs.GroupTable.write_slots.Goals.{After-serve}

-- the number of slots
size : (c : After-serve) → (1 * 2 ^ c.args.self.now.k % 2 ^ 64 ≡ 2 ^ c.args.self.now.k) × (2 ^ c.args.self.now.k ≤ 2048)
size c = (shift_exact _ (omega (arith, c.args.self.now.few)), pow_mono {i = c.args.self.now.k} {j = 11} c.args.self.now.few)

pub loop-t-init : goal.loop-t-init
loop-t-init c = let p = c.requires in (omega arith, refl, rw p.0 (heads _ _), p.0 ∙ after_none _ _ _, written_none _ _ _ _ _)

pub loop-t-preserved : goal.loop-t-preserved
loop-t-preserved c =
    let L = c.loop-t in
    let z = size (goal.at.loop-t-preserved c).After-serve in
    let v : c.reversed.result ≡ rb L.t c.args.self.now.k = c.reversed.ensures in
    let r = c.serve.ensures in
    let P = replicate {A = ℕ} c.args.self.now.k 0 in (
      omega arith,
      simp length-set L.invariant.1,
      rw r.1 (moved_pointing _ _ _ _ L.invariant.2),
      rw (r.1, v, L.invariant.3) (after_more c.args.self.now.k c.args.self.now.starts.now c.args.self.now.names.now P L.t),
      rw (r.0, v, L.invariant.3, L.invariant.4) (written_more c.args.self.now.k c.args.self.now.starts.now c.args.self.now.names.now P c.args.output.now L.t (omega (arith, c.requires.1))),
    )

pub returns : goal.returns
returns c =
    let a = c.args in
    let z = shift_exact a.self.now.k (omega (arith, a.self.now.few)) in
    let e : c.loop-t.t ≡ 2 ^ a.self.now.k = omega arith in
    c.loop-t.invariant.4 ∙ rw e (written_all a.self.now.k a.self.now.starts.now a.self.now.names.now a.output.now)
