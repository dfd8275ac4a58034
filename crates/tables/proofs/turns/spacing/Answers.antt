-- `tables::turns::spacing` meets its contract. Assumes nothing.
use Rattle.std.proofs.Common.{rules, ◌≡◌, sym, ap, subst, ◌∙◌, List, ℕ, ◌≤◌, ◌<◌, arith, eqb, length, take}
use Rattle.sequences.specs.Serving.{count_list}
use Rattle.tables.proofs.Turning.{round_length}
use Rattle.tables.proofs.Serves.{round_serves_lem, served_some}
use Rattle.tables.proofs.Spaced.{taken_written}
use Rattle.tables.specs.Turns as turning
use Rattle.tables.proofs.turns.spacing.Goals as goal
use Rattle.tables.proofs.turns.spacing.Goals.{After-write_round}

-- the names of the round stand at the start
long : (c : After-write_round) → c.args.c ≤ length c.write_round.new.output
long c =
    let l : c.args.c ≤ length c.zeros-names.result = search rules in
    omega (arith, c.write_round.auto)

taken : (c : After-write_round)
    → take c.args.c c.write_round.new.output ≡ turning.round_serves c.args.c c.args.board.now c.args.rates.now
taken c =
    let a = c.args in
    ap (take a.c) c.write_round.ensures
    ∙ taken_written a.c (turning.round_serves a.c a.board.now a.rates.now) c.zeros-names.result (round_length a.c a.board.now a.rates.now)

-- the name is one of them
some : (c : After-write_round)
    → 0 < count_list (λ y. eqb y c.args.name) (turning.round_serves c.args.c c.args.board.now c.args.rates.now)
some c =
    let s = c.requires.1 in
    let named : c.args.name ≡ 0 → ⊥ = λ e. omega (arith, c.requires.2) in
    rw (round_serves_lem c.args.c c.args.board.now c.args.rates.now s.few c.requires.0.some s.fit c.args.name named c.requires.3)
    (served_some c.args.c c.args.board.now c.args.rates.now s.few c.requires.0.some s.fit c.args.name named c.requires.3)

pub spacing_of-requires : goal.spacing_of-requires
spacing_of-requires c =
    (long (goal.at.spacing_of-requires c).After-write_round, c.requires.1.few, subst (λ (N : List ℕ). 0 < count_list (λ y. eqb y c.args.name) N) (sym (taken (goal.at.spacing_of-requires c).After-write_round)) (some (goal.at.spacing_of-requires c).After-write_round))
