-- `groups::import_shares` meets its contract. Assumes nothing.
use Rattle.std.proofs.Common.{◌≡◌, sym, ◌∙◌, ◌≤◌, length, arith}
use Rattle.std.proofs.lemmas.Bool.Decides.{nat_tests}
use Rattle.std.specs.Prelude.{Ok}
use Rattle.groups.specs.Results.{finds_shares, shares_short}
use Rattle.groups.proofs.Checked.{found_is, shares_plain, shares_long, allowed, cleared_by, kept_by}
use Rattle.groups.proofs.import_shares.Goals as goal
use Rattle.groups.proofs.import_shares.Goals.{After-check-found, Then-is_ok, then-is_ok, else-is_ok}

-- what the checks found
found : (c : After-check-found)
    → c.check-found.result ≡ finds_shares c.args.capacity c.args.starts.now c.args.names.now c.args.board.now c.args.rates.now c.args.owed.now c.args.other.now c.args.list.now c.args.output.now
found c =
    let a = c.args in
    let asked : c.if-owed-c.short ≡ shares_short a.capacity a.board.now (length a.list.now) (length a.rates.now) (length a.owed.now) (length a.other.now) = grind (arith, nat_tests) in
    found_is _ _ _ _ _ _ _ c.check-found.ensures asked

-- the tables are long enough where they found nothing
long : (c : After-check-found) → c.check-found.result ≡ Ok tt
    → (c.args.capacity ≤ length c.args.rates.now) × (c.args.capacity ≤ length c.args.owed.now) × (c.args.capacity ≤ length c.args.other.now) × (c.args.capacity ≤ 4095)
long c e =
    let a = c.args in
    shares_long a.capacity a.starts.now a.names.now a.board.now a.rates.now a.owed.now a.other.now a.list.now a.output.now (sym (found c) ∙ e)

-- nothing is refused
clear : (c : Then-is_ok) → c.check-found.result ≡ Ok tt
clear c = allowed _ (grind arith)

pub clear_table-requires : goal.clear_table-requires
clear_table-requires c = let l = long (goal.at.clear_table-requires c).After-check-found (clear (goal.at.clear_table-requires c).Then-is_ok) in (l.0, l.3)

pub clear_table-requires-then-is_ok : goal.clear_table-requires-then-is_ok
clear_table-requires-then-is_ok c = let l = long (goal.at.clear_table-requires-then-is_ok c).After-check-found (clear (goal.at.clear_table-requires-then-is_ok c).Then-is_ok) in (l.1, l.3)

pub clear_table-requires-then-is_ok-2 : goal.clear_table-requires-then-is_ok-2
clear_table-requires-then-is_ok-2 c = let l = long (goal.at.clear_table-requires-then-is_ok-2 c).After-check-found (clear (goal.at.clear_table-requires-then-is_ok-2 c).Then-is_ok) in (l.2, l.3)

pub import_by-requires : goal.import_by-requires
import_by-requires c = let a = c.args in λ e. shares_plain a.capacity a.starts.now a.names.now a.board.now a.rates.now a.owed.now a.other.now a.list.now a.output.now (sym (found (goal.at.import_by-requires c).After-check-found) ∙ e)

pub returns : goal.returns
returns c =
    let o = sym c.is_ok.ensures.value in
    rw (← found (goal.at.returns c).After-check-found) (
      c.import_by.ensures,
      elim c.if-is_ok.branch [
        | then-is_ok w ↦
            let t = o ∙ w.if-is_ok.true in
            (cleared_by _ _ _ _ t (w.rates-is ∙ w.clear_table.ensures), cleared_by _ _ _ _ t (w.owed-is ∙ w.clear_table-then-is_ok.ensures), cleared_by _ _ _ _ t (w.other-is ∙ w.clear_table-then-is_ok-2.ensures))
        | else-is_ok w ↦
            let f = o ∙ w.if-is_ok.false in
            (kept_by _ _ _ _ f w.rates-is, kept_by _ _ _ _ f w.owed-is, kept_by _ _ _ _ f w.other-is)
      ],
    )
