-- The laws of a board that upper crates cite: that pieces cover every leaf once, what placing and removing give, how many pieces a name has, and what holds of a
-- name because it holds of its pieces. Assumes nothing.
use mathlib.Core.Path.{◌≡◌, sym, ap, ◌∙◌}
use mathlib.Core.Bool.{true}
use mathlib.Core.List.{List}
use Prim.Native.Nat.{ℕ, suc, ◌+◌, ◌*◌, ◌/◌, ◌%◌, ◌^◌, ◌≤◌, ◌<◌}
use native.Mathlib.Omega.{arith}
use lib.Count.{ones}
use lib.ListN.{get_or, length}
use Rattle.pieces.specs.Board.{pieces, nth, good, Good, sum, weight, piece_count}
use Rattle.pieces.specs.Literal.{IsPiece, LiesIn}
use Rattle.pieces.specs.Placing.{fill}
use Rattle.pieces.specs.Tidying.{Removable, removed}
-- Boards worked by hand. They are computed before any law is proved, so that a wrong rule falls on them first.
pub use Rattle.pieces.proofs.Examples.{worked}
-- The board after an add that passes its checks.
pub use Rattle.pieces.proofs.AfterAdd.{placed_length, placed_good, placed_weight, placed_idle, placed_others, placed_leaf, placed_beyond}
-- Streams added to idle leaves one after the other: that each can be added in its turn, and what they make of the board. `Apart` says that each has a name of
-- its own and a weight; `held_of` is what they give a name, `total` what they take in all.
unfoldable pub use Rattle.pieces.proofs.Streams.{Apart}
pub use Rattle.pieces.proofs.Layouts.{idle_placeable, idle_laid}
-- A board laid out afresh: its entries, that it is good, what each name holds, that each stream can be added in its turn, that it hangs on the weights alone.
pub use Rattle.pieces.proofs.Layouts.{fresh_length, fresh_beyond, fresh_good, fresh_weights, fresh_placeable, fresh_same, fresh_again}
-- A run of one name, leaf by leaf.
pub use Rattle.pieces.proofs.Blocks.{whole_elim, whole_name, whole_end}
-- The list of a board's pieces: block by block; that it hangs on the leaves alone; its length and its numbers; that each entry is a piece of a named stream, in
-- order, and no leaf of a stream is left out; that there is no second such list.
pub use Rattle.pieces.proofs.Entries.{leaf_whole, named_past, named_run, named_halves, named_same, named_few, named_words}
pub use Rattle.pieces.proofs.Rows.{name_in, start_in, size_in, named_entries, Complete, same_entries}
use Rattle.pieces.proofs.Blocks as blocks
use Rattle.pieces.proofs.Blocks.{pieces_runs}
use Rattle.pieces.proofs.Replace.{Agree, runs_local}
use Rattle.pieces.proofs.Piece.{nth_order}
use Rattle.pieces.proofs.Literal as literal
use Rattle.pieces.proofs.Literal.{good_intro, good_elim}
use Rattle.pieces.proofs.Opened.{idle_good}
use Rattle.pieces.proofs.Weight as weights
use Rattle.pieces.proofs.Adding as adding
use Rattle.pieces.proofs.Removed as removing
use Rattle.pieces.proofs.Sums as sums

-- ---- pieces cover every leaf once

module _ (C : ℕ) (few : C ≤ 4095) (B : List ℕ) where
  -- Each leaf lies in a piece,
  pub leaf_in_piece : (i : ℕ) → i < C → (x : ℕ) × (a : ℕ) × (l : ℕ) × LiesIn C B i x a l
  leaf_in_piece = literal.leaf_covered C (omega arith) B

  -- and in no second one.
  pub leaf_in_one_piece : {i x a l y b m : ℕ} → LiesIn C B i x a l → LiesIn C B i y b m → (x ≡ y) × (a ≡ b) × (l ≡ m)
  leaf_in_one_piece = literal.leaf_covered_once C (omega arith) B

  module _ (x : ℕ) where
    -- The pieces of x of the size 2^e are as many as `pieces` counts. The one that `nth` gives for a number is a piece,
    pub nth_is_piece : (e k : ℕ) → k < pieces C B x e 0 12 → IsPiece C B x (nth C B x e k 0 12) e
    nth_is_piece = literal.nth_literal C (omega arith) B x

    -- each piece is given for a number,
    pub piece_is_nth : {a e : ℕ} → IsPiece C B x a e → (k : ℕ) × (k < pieces C B x e 0 12) × (nth C B x e k 0 12 ≡ a)
    piece_is_nth = literal.literal_nth C (omega arith) B x

    -- and those of two numbers share no leaf.
    pub nth_apart : (e k j : ℕ) → k < j → j < pieces C B x e 0 12 → nth C B x e k 0 12 + 2 ^ e ≤ nth C B x e j 0 12
    nth_apart e k j = nth_order C B x e k j 0 12

    -- The number of a name's leaves is the sum of its pieces' sizes.
    pub weight_sizes : weight C B x ≡ sum (λ e. pieces C B x e 0 12 * 2 ^ e) 13
    weight_sizes = weights.weight_total C B x (omega arith) ∙ weights.leaves_sum C B x 0 12

-- A stream of weight w on a good board has as many pieces as w has ones.
pub pieces_ones : (C : ℕ) (B : List ℕ) (x : ℕ) → C ≤ 4095 → good C B ≡ true → piece_count C B x ≡ ones (weight C B x)
pieces_ones C B x few sound = weights.good_number C B (good_elim C B sound) x ∙ ap ones (sym (weights.weight_total C B x (omega arith)))

-- For each one of w, at the place l, it has a piece of 2 ^ l leaves.
pub digit_piece : (C : ℕ) (B : List ℕ) (x l : ℕ) → C ≤ 4095 → good C B ≡ true → weight C B x / 2 ^ l % 2 ≡ 1 → (a : ℕ) × IsPiece C B x a l
digit_piece C B x l few sound set =
    let lone : pieces C B x l 0 12 ≡ 1 =
    weights.pieces_digit C B x 0 12 (good_elim C B sound x) l ∙ ap (λ (n : ℕ). n / 2 ^ l % 2) (sym (weights.weight_total C B x (omega arith))) ∙ set in
    (nth C B x l 0 0 12, nth_is_piece C few B x l 0 (omega arith))

-- A number of leaves is at most C.
pub weight_le : (C : ℕ) (B : List ℕ) (x : ℕ) → weight C B x ≤ C
weight_le = weights.weight_le

-- Whether a board is good hangs on its leaves alone, and not on the entries beyond them.
pub good_same : (C : ℕ) (B B'' : List ℕ) → ((i : ℕ) → i < C → get_or B i 0 ≡ get_or B'' i 0) → good C B ≡ true → good C B'' ≡ true
good_same C B B'' same sound =
    let agree : Agree C B B'' 0 12 = λ i c p q. same i c in
    good_intro C B'' (λ x e.
    omega (arith, good_elim C B sound x e, pieces_runs C B x e 0 12, pieces_runs C B'' x e 0 12, runs_local C B B'' x e 0 12 agree, runs_local C B B'' x (suc e) 0 12 agree))

-- An idle board is good.
pub opened_good : (C : ℕ) (B : List ℕ) → C ≤ 4095 → ((i : ℕ) → i < C → get_or B i 0 ≡ 0) → good C B ≡ true
opened_good C B few idle = good_intro C B (idle_good C B idle few)

-- Whatever is counted at the leaves of a name, and is near 2^l * T on each of its runs of 2^l leaves up to D, is near its weight times T up to D for each of its pieces.
pub over_pieces : (C : ℕ) (B : List ℕ) (x : ℕ) (s : ℕ → ℕ → ℕ) (K T D : ℕ)
    → ((a l : ℕ) → s a (suc l) ≡ s a l + s (a + 2 ^ l) l)
    → ((a : ℕ) → (a < C → get_or B a 0 ≡ x → ⊥) → s a 0 ≡ 0)
    → ((a l : ℕ) → a % 2 ^ l ≡ 0 → a + 2 ^ l ≤ C → ((i : ℕ) → a ≤ i → i < a + 2 ^ l → get_or B i 0 ≡ x) → (K * s a l ≤ 2 ^ l * T + D) × (2 ^ l * T ≤ K * s a l + D))
    → C ≤ 4095 → (K * s 0 12 ≤ weight C B x * T + piece_count C B x * D) × (weight C B x * T ≤ K * s 0 12 + piece_count C B x * D)
over_pieces C B x s K T D halves none run few = sums.over_pieces C B x s K T D halves none run few

-- Leaves given to a name.
pub fill_length : (B : List ℕ) (a n x : ℕ) → length (fill B a n x) ≡ length B
fill_length = adding.length_fill

pub fill_inside : (B : List ℕ) (a n x i : ℕ) → a ≤ i → i < a + n → i < length B → get_or (fill B a n x) i 0 ≡ x
fill_inside = adding.fill_in

pub fill_outside : (B : List ℕ) (a n x i : ℕ) → (a ≤ i → i < a + n → ⊥) → get_or (fill B a n x) i 0 ≡ get_or B i 0
fill_outside = adding.fill_out

-- ---- the board after a remove that passes its checks

module _ (C : ℕ) (B : List ℕ) (x : ℕ) (may : Removable C B x) where
  alike : (D : List ℕ) (y : ℕ) → weight C D y ≡ blocks.total C D y
  alike D y = weights.weight_total C D y (omega (arith, may.small))

  was_good : Good C B
  was_good = good_elim C B may.sound

  -- It has as many entries.
  pub removed_length : length (removed C B x) ≡ length B
  removed_length = removing.removed_length C B x may.long may.named was_good

  -- It is good.
  pub removed_good : good C (removed C B x) ≡ true
  removed_good = good_intro C (removed C B x) (removing.removed_good C B x may.long may.named was_good)

  -- No leaf holds the name.
  pub removed_name : weight C (removed C B x) x ≡ 0
  removed_name = alike (removed C B x) x ∙ removing.removed_name C B x may.long may.named was_good

  -- The idle leaves gain its weight.
  pub removed_idle_lem : weight C (removed C B x) 0 ≡ weight C B 0 + weight C B x
  removed_idle_lem = rw (alike (removed C B x) 0, alike B 0, alike B x) (removing.removed_idle C B x may.long may.named was_good)

  -- Every other stream keeps its weight.
  pub removed_others : (y : ℕ) → (y ≡ 0 → ⊥) → (y ≡ x → ⊥) → weight C (removed C B x) y ≡ weight C B y
  removed_others y n m = rw (alike (removed C B x) y, alike B y) (removing.removed_others C B x may.long may.named was_good y n m)

  -- Entries beyond C stay.
  pub removed_beyond : (i : ℕ) → C ≤ i → get_or (removed C B x) i 0 ≡ get_or B i 0
  removed_beyond = removing.removed_beyond C B x may.long may.named was_good
