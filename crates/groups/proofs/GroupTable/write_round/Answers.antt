-- `groups::GroupTable::write_round` meets its contract. Assumes nothing.
use Rattle.std.proofs.Common.{◌≡◌, ℕ, ◌-◌, arith, replicate}
use Rattle.std.proofs.lemmas.List.{take-replicate}
use Rattle.general.specs.Lists.{blank}
use Rattle.groups.proofs.GroupTable.write_round.Goals as goal

pub write_slots-requires : goal.write_slots-requires
unfolding blank
write_slots-requires c =
    let k = c.args.self.now.k in
    let z : k - 0 ≡ k = omega arith in
    let e : c.zeros-pointers.result ≡ replicate {A = ℕ} 11 0 = c.zeros-pointers.ensures in
    (rw (z, e) (take-replicate k 11 0 c.args.self.now.few), c.requires)
