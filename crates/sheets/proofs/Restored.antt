-- The sheet of a board's pieces spells the board, and so the piece form is exact. Assumes nothing.
use mathlib.Core.Path.{◌≡◌, refl, sym, ap, ◌∙◌}
use mathlib.Core.Bool.{true, false}
use mathlib.Core.List.{List, [], ◌∷◌}
use Prim.Native.Nat.{ℕ, zero, suc, ◌+◌, ◌-◌, ◌*◌, ◌^◌, ◌/◌, ◌%◌, ◌≤◌, ◌<◌}
use native.Mathlib.Nat.{zero-add, add-zero, mul-mod_left, two-pow-succ}
use native.Mathlib.Omega.{arith}
use native.Mathlib.Decide.{dec_lt, ℕ_discrete}
use lib.ListN.{length, get_or, take, replicate, length-append, length-replicate, get_or-append, get_or-eq_default}
use lib.Seq.{ext_get_or, get_or-append-add, get_or-take, length-take-le, take-length, take_all}
use borrow.Author.Tests.{le-ltb}
use Rattle.general.specs.Tests.{same}
use Rattle.general.proofs.Laws.{by_bool, and_left, and_right, same_true, true_same, zero_at}
use Rattle.pieces.specs.Board.{whole}
use Rattle.pieces.specs.Placing.{fill}
use Rattle.pieces.specs.Listing.{entry, named, named_pieces}
use Rattle.pieces.proofs.Laws.{whole_elim, whole_end, leaf_whole, named_past, named_run, named_halves, named_same, named_few, named_words, fill_length, fill_inside, fill_outside}
use Rattle.sequences.proofs.Laws.{digits_le}
use Rattle.calls.specs.Records.{drive_at}
use Rattle.calls.specs.Refusals.{open_check, position_check, is_clear}
use Rattle.std.specs.Prelude.{Ok}
use Rattle.calls.proofs.Laws.{Sized, is_clear_lem, then_clear, open_sized, slot_sized, slot_parts, slot_position}
use Rattle.sheets.specs.Blocks.{Words, values_from, sum_of, number_at}
use Rattle.sheets.specs.Sheet.{leaf_or_zero, capacity_in}
use Rattle.sheets.specs.Entries.{entry_blocks, entry_page, entry_bytes, entry_sheet, position_in, entry_in, readable, spell, spelled, entries_laid}
use Rattle.sheets.specs.Forms.{size_of}
use Rattle.sheets.specs.Results.{piece_form}
use Rattle.sheets.proofs.Lists.{values_at}
use Rattle.sheets.proofs.Pages.{number_written, capacity_written, held_written, sum_written}
use Rattle.sheets.specs.Lawful.{entry_number, entries_held, entries_full}
use Rattle.sheets.proofs.Spelling.{entry_sheet_length, readable_idle, readable_intro, spell_more, spell_stop, spell_end, spelled_length}
use Rattle.sheets.proofs.Checked.{good_check_lem, entry_parts, entry_slot, entry_good, entry_room}
use Rattle.sheets.proofs.Trips.{Exact}

-- ---- spelling the pieces of a block

-- The entries of the block (a, l), read from entry i on, are `count` entries, and give it the leaves of B: D' is the board then, and they end at at'.
pub record Spelled (f : ℕ → ℕ) (C : ℕ) (B D : List ℕ) (at i a l : ℕ) : Type 0 where
  pub count : ℕ
  pub board : List ℕ
  pub end : ℕ
  pub counted : length (named C B a l) ≡ 3 * count
  pub reads : (k : ℕ) → spell f C D at i (count + k) ≡ spell f C board end (i + count) k
  pub size : length board ≡ length D
  pub ends : end ≤ a + 2 ^ l
  pub inside : (j : ℕ) → a ≤ j → j < a + 2 ^ l → j < C → get_or board j 0 ≡ get_or B j 0
  pub outside : (j : ℕ) → (a ≤ j → j < a + 2 ^ l → ⊥) → get_or board j 0 ≡ get_or D j 0

module _ (f : ℕ → ℕ) (C : ℕ) (small : C ≤ 4095) (B : List ℕ) where
  -- a block with nothing to read
  spelled_none : (D : List ℕ) (at i a l : ℕ) → named C B a l ≡ [] → at ≤ a → ((j : ℕ) → a ≤ j → j < a + 2 ^ l → j < C → get_or D j 0 ≡ get_or B j 0)
      → Spelled f C B D at i a l
  spelled_none D at i a l e h same = record {
    count = 0;
    board = D;
    end = at;
    counted = ap length e;
    reads = λ k. rw (zero-add k, add-zero i) refl;
    size = refl;
    ends = omega arith;
    inside = same;
    outside = λ j o. refl;
  }

  -- a run
  spelled_run : (D : List ℕ) (at i q a l : ℕ) → l ≤ 12 → a ≡ q * 2 ^ l → at ≤ a → a < C → length D ≡ C → ((j : ℕ) → a ≤ j → j < a + 2 ^ l → get_or D j 0 ≡ 0)
      → ((j : ℕ) → j < length (named C B a l) → f (3 * i + j) ≡ get_or (named C B a l) j 0) → whole C B (get_or B a 0) a l ≡ true
      → (x : ℕ) → get_or B a 0 ≡ x → Spelled f C B D at i a l
  spelled_run D at i q a l k m h c size idle are t zero e =
      spelled_none D at i a l (named_run C B a l c t ∙ ap (λ (y : ℕ). entry y a l) e) h
      (λ j p r b. idle j p r ∙ sym ((whole_elim C B (get_or B a 0) a l t j p r).1 ∙ e))
  spelled_run D at i q a l k m h c size idle are t (suc x) e =
      let list : named C B a l ≡ suc x ∷ a ∷ l ∷ [] = named_run C B a l c t ∙ ap (λ (y : ℕ). entry y a l) e in
      let three : length (named C B a l) ≡ 3 = ap length list in
      let stop = whole_end C B (get_or B a 0) a l t in
      let low : l < 12 = below l k stop in
      let e₀ : suc x ≡ f (3 * i) = sym (ap f (sym (add-zero (3 * i))) ∙ are 0 (omega arith) ∙ ap (λ (L : List ℕ). get_or L 0 0) list) in
      let e₁ : a ≡ f (3 * i + 1) = sym (are 1 (omega arith) ∙ ap (λ (L : List ℕ). get_or L 1 0) list) in
      let e₂ : l ≡ f (3 * i + 2) = sym (are 2 (omega arith) ∙ ap (λ (L : List ℕ). get_or L 2 0) list) in
      let fit : readable C at (suc x) a l ≡ true =
      readable_intro C at (suc x) a l
      (record { owner = λ z. omega arith; small = low; multiple = ap (λ (n : ℕ). n % 2 ^ l) m ∙ mul-mod_left q (2 ^ l); after = h; ends = stop })
      in
      record {
        count = 1;
        board = fill D a (2 ^ l) (suc x);
        end = a + 2 ^ l;
        counted = three;
        reads = λ k.
            let d : i + (1 + k) - i ≡ 1 + k = omega arith in
            let d' : i + (1 + k) - (i + 1) ≡ k = omega arith in
            rw (d, d') at (sym (spell_more f C D at i (i + (1 + k)) (suc x) a l (omega arith) e₀ e₁ e₂ (2 ^ l) (fill D a (2 ^ l) (suc x)) refl fit refl));
        size = fill_length D a (2 ^ l) (suc x);
        ends = omega arith;
        inside = λ j p r b. fill_inside D a (2 ^ l) (suc x) j p r (omega arith) ∙ sym ((whole_elim C B (get_or B a 0) a l t j p r).1 ∙ e);
        outside = λ j o. fill_outside D a (2 ^ l) (suc x) j o;
      }
    where
      below : (l : ℕ) → l ≤ 12 → a + 2 ^ l ≤ C → l < 12
      below l h s =
          elim (ℕ_discrete l 12) [
            | yes r ↦ absurd (let z : 2 ^ l ≡ 4096 = ap (λ (n : ℕ). 2 ^ n) r in omega arith)
            | no r ↦ omega arith
          ]

  abbrev BlockSpelled : ℕ → Type 0
  BlockSpelled l = (D : List ℕ) (at i q a : ℕ) → l ≤ 12 → a ≡ q * 2 ^ l → at ≤ a → length D ≡ C → ((j : ℕ) → a ≤ j → j < a + 2 ^ l → get_or D j 0 ≡ 0)
      → ((j : ℕ) → j < length (named C B a l) → f (3 * i + j) ≡ get_or (named C B a l) j 0) → Spelled f C B D at i a l

  spelled_join : (l : ℕ) (D : List ℕ) (at i a : ℕ) → whole C B (get_or B a 0) a (suc l) ≡ false → (u : Spelled f C B D at i a l)
      → Spelled f C B u.board u.end (i + u.count) (a + 2 ^ l) l → Spelled f C B D at i a (suc l)
  spelled_join l D at i a t u v =
      let sum : length (named C B a (suc l)) ≡ length (named C B a l) + length (named C B (a + 2 ^ l) l) =
      ap length (named_halves C B a l t) ∙ length-append (named C B a l) (named C B (a + 2 ^ l) l)
      in
      record {
        count = u.count + v.count;
        board = v.board;
        end = v.end;
        counted = omega (arith, u.counted, v.counted, sum);
        reads = λ k.
            let e : u.count + v.count + k ≡ u.count + (v.count + k) = omega arith in
            let d : i + (u.count + v.count) ≡ i + u.count + v.count = omega arith in
            rw (e, d) (u.reads (v.count + k) ∙ v.reads k);
        size = v.size ∙ u.size;
        ends = omega (arith, v.ends, two-pow-succ l);
        inside = λ j p r b.
            elim (dec_lt j (a + 2 ^ l)) [
              | yes z ↦ v.outside j (λ p' r'. omega arith) ∙ u.inside j p z b
              | no z ↦ v.inside j (omega arith) (omega (arith, two-pow-succ l)) b
            ];
        outside = λ j o.
            v.outside j (λ p r. o (omega arith) (omega (arith, two-pow-succ l))) ∙ u.outside j (λ p r. o p (omega (arith, two-pow-succ l)));
      }

  spelled_high : (l : ℕ) → BlockSpelled l → (D : List ℕ) (at i q a : ℕ) → suc l ≤ 12 → a ≡ q * 2 ^ suc l → length D ≡ C
      → ((j : ℕ) → a ≤ j → j < a + 2 ^ suc l → get_or D j 0 ≡ 0)
      → ((j : ℕ) → j < length (named C B a (suc l)) → f (3 * i + j) ≡ get_or (named C B a (suc l)) j 0)
      → whole C B (get_or B a 0) a (suc l) ≡ false → (u : Spelled f C B D at i a l) → Spelled f C B u.board u.end (i + u.count) (a + 2 ^ l) l
  spelled_high l half D at i q a k m size idle are t u =
      let lo = named C B a l in
      let hi = named C B (a + 2 ^ l) l in
      let both = named_halves C B a l t in
      let sum : length (named C B a (suc l)) ≡ length lo + length hi = ap length both ∙ length-append lo hi in
      half u.board u.end (i + u.count) (2 * q + 1) (a + 2 ^ l) (omega arith) (omega (arith, ap (λ (n : ℕ). q * n) (two-pow-succ l))) u.ends (u.size ∙ size)
      (λ j p r. u.outside j (λ p' r'. omega arith) ∙ idle j (omega arith) (omega (arith, two-pow-succ l)))
      (λ j b.
      let e : 3 * (i + u.count) + j ≡ 3 * i + (length lo + j) = omega (arith, u.counted) in
      ap f e ∙ are (length lo + j) (omega arith) ∙ ap (λ (L : List ℕ). get_or L (length lo + j) 0) both ∙ get_or-append-add lo hi j 0)

  spelled_low : (l : ℕ) → BlockSpelled l → (D : List ℕ) (at i q a : ℕ) → suc l ≤ 12 → a ≡ q * 2 ^ suc l → at ≤ a → length D ≡ C
      → ((j : ℕ) → a ≤ j → j < a + 2 ^ suc l → get_or D j 0 ≡ 0)
      → ((j : ℕ) → j < length (named C B a (suc l)) → f (3 * i + j) ≡ get_or (named C B a (suc l)) j 0)
      → whole C B (get_or B a 0) a (suc l) ≡ false → Spelled f C B D at i a l
  spelled_low l half D at i q a k m h size idle are t =
      let lo = named C B a l in
      let hi = named C B (a + 2 ^ l) l in
      let both = named_halves C B a l t in
      let sum : length (named C B a (suc l)) ≡ length lo + length hi = ap length both ∙ length-append lo hi in
      half D at i (2 * q) a (omega arith) (omega (arith, ap (λ (n : ℕ). q * n) (two-pow-succ l))) h size (λ j p r. idle j p (omega (arith, two-pow-succ l)))
      (λ j b. are j (omega arith) ∙ ap (λ (L : List ℕ). get_or L j 0) both ∙ get_or-append lo hi 0 j b)

  pub block_spelled : (l : ℕ) → BlockSpelled l
  block_spelled zero D at i q a k m h size idle are =
      elim (dec_lt a C) [
        | yes c ↦ spelled_run D at i q a 0 k m h c size idle are (leaf_whole C B a c) (get_or B a 0) refl
        | no c ↦ spelled_none D at i a 0 (named_past C B a 0 (omega arith)) h (λ j p r b. absurd (omega arith))
      ]
  block_spelled (suc l) D at i q a k m h size idle are =
      elim (dec_lt a C) [
        | yes c ↦ by_bool (whole C B (get_or B a 0) a (suc l))
            (λ t. spelled_run D at i q a (suc l) k m h c size idle are t (get_or B a 0) refl)
            (λ t.
            let u = spelled_low l (block_spelled l) D at i q a k m h size idle are t in
            spelled_join l D at i a t u (spelled_high l (block_spelled l) D at i q a k m size idle are t u))
        | no c ↦ spelled_none D at i a (suc l) (named_past C B a (suc l) (omega arith)) h (λ j p r b. absurd (omega arith))
      ]

-- after the last entry there is none
pub after_last : (f : ℕ → ℕ) (C : ℕ) (D : List ℕ) (end m k : ℕ) → (0 < k → f (3 * m) ≡ 0) → spell f C D end m k ≡ D
after_last f C D end m zero h =
    let e : m - m ≡ 0 = omega arith in
    rw e at (sym (spell_end f C D end m m (omega arith)))
after_last f C D end m (suc k) h =
    let e : m + suc k - m ≡ suc k = omega arith in
    rw e at (sym (spell_stop f C D end m (m + suc k) (f (3 * m)) (f (3 * m + 1)) (f (3 * m + 2)) (omega arith) refl refl refl (sym (readable_idle C end (f (3 * m)) (f (3 * m + 1)) (f (3 * m + 2)) (h (omega arith))))))

-- n blocks that spell the board
pub spelled_board : (f : ℕ → ℕ) (C : ℕ) → C ≤ 4095 → (B : List ℕ) → C ≤ length B → (n : ℕ) → (u : Spelled f C B (replicate C 0) 0 0 0 12) → length (named_pieces C B) ≤ 252 * n
    → (3 * u.count < 252 * n → f (3 * u.count) ≡ 0) → spell f C (replicate C 0) 0 0 (84 * n) ≡ take C B
spelled_board f C few B long n u room last =
    let k = 84 * n - u.count in
    let parts : 84 * n ≡ u.count + k = omega (arith, u.counted) in
    ap (λ (m : ℕ). spell f C (replicate C 0) 0 0 m) parts ∙ u.reads k ∙ ap (λ (m : ℕ). spell f C u.board u.end m k) (zero-add u.count)
    ∙ after_last f C u.board u.end u.count k (λ h. last (omega (arith, u.counted)))
    ∙ ext_get_or 0 u.board (take C B) (u.size ∙ length-replicate {A = ℕ} C 0 ∙ sym (length-take-le C B long))
    (λ j h.
    let c : j < C = omega (arith, u.size, length-replicate {A = ℕ} C 0) in
    u.inside j (omega arith) (omega arith) c ∙ sym (get_or-take C B j 0 c))

-- ---- the numbers of a sheet of pieces

-- the position is a sixteen-bit number
pub position_small : (C p : ℕ) (B : List ℕ) → Sized C B → position_check C p ≡ Ok tt → p < 65536
position_small C p B sized at =
    let position = slot_position (drive_at C p) B (slot_parts (drive_at C p) B ∙ rw (open_sized C B sized) at) in
    omega (arith, position.last, digits_le C sized.some, sized.few)

module _ (C p : ℕ) (B : List ℕ) (sized : Sized C B) (words : Words B) (at : position_check C p ≡ Ok tt) where
  list_few : length (named_pieces C B) ≤ 12288
  list_few = named_few C B 12 0

  list_word : (i : ℕ) → leaf_or_zero (length (named_pieces C B)) (named_pieces C B) i ≡ get_or (named_pieces C B) i 0
  unfolding leaf_or_zero
  list_word i = ap (λ (L : List ℕ). get_or L i 0) (take-length (named_pieces C B))

  low : C < 65536
  low = omega (arith, sized.few)

  numbers_low : (b : ℕ) → b < entry_blocks (length (named_pieces C B)) → entry_number b < 65536
  unfolding entry_blocks
  numbers_low b h = omega (arith, list_few)

  held_low : (b j : ℕ) → b < entry_blocks (length (named_pieces C B)) → j < 253 → get_or (entries_held p (named_pieces C B) b) j 0 < 65536
  held_low b zero h l = position_small C p B sized at
  held_low b (suc j) h l =
      let k : j < 252 = omega arith in
      rw (values_at (leaf_or_zero (length (named_pieces C B)) (named_pieces C B)) (252 * b) 252 j k, list_word (252 * b + j))
      (named_words C B words sized.few 12 0 (omega arith) (252 * b + j))

  pub entry_capacity : capacity_in (entry_sheet C p B) ≡ C
  unfolding capacity_in entry_sheet entry_bytes entry_page entry_blocks
  entry_capacity =
      let L = named_pieces C B in
      capacity_written entry_number C (entries_held p L) (entries_full p L) (entry_blocks (length L)) low numbers_low held_low 0 (omega arith)

  pub entry_position : position_in (entry_sheet C p B) ≡ p
  unfolding position_in entry_sheet entry_bytes entry_page entry_blocks
  entry_position =
      let L = named_pieces C B in
      held_written entry_number C (entries_held p L) (entries_full p L) (entry_blocks (length L)) low numbers_low held_low 0 0 (omega arith) (omega arith)

  -- the same of every block
  module _ (b : ℕ) (h : b < entry_blocks (length (named_pieces C B))) where
    pub block_number : number_at (entry_sheet C p B) (256 * b) ≡ 32768 + b
    unfolding entry_sheet entry_bytes entry_page
    block_number =
        let L = named_pieces C B in
        number_written entry_number C (entries_held p L) (entries_full p L) (entry_blocks (length L)) low numbers_low held_low b h

    pub block_capacity : number_at (entry_sheet C p B) (256 * b + 1) ≡ C
    unfolding entry_sheet entry_bytes entry_page
    block_capacity =
        let L = named_pieces C B in
        capacity_written entry_number C (entries_held p L) (entries_full p L) (entry_blocks (length L)) low numbers_low held_low b h

    pub block_position : number_at (entry_sheet C p B) (256 * b + 2) ≡ p
    unfolding entry_sheet entry_bytes entry_page
    block_position =
        let L = named_pieces C B in
        held_written entry_number C (entries_held p L) (entries_full p L) (entry_blocks (length L)) low numbers_low held_low b 0 h (omega arith)

    pub block_total : sum_of (values_from (number_at (entry_sheet C p B)) (256 * b) 256) % 65536 ≡ 0
    unfolding entry_sheet entry_bytes entry_page
    block_total =
        let L = named_pieces C B in
        sum_written entry_number C (entries_held p L) (entries_full p L) (entry_blocks (length L)) low numbers_low held_low b h

  -- the entries that it holds are the pieces, and zeros after them
  pub entry_number_lem : (i : ℕ) → i < 252 * entry_blocks (length (named_pieces C B)) → entry_in (entry_sheet C p B) i ≡ get_or (named_pieces C B) i 0
  unfolding entry_in entry_sheet entry_bytes entry_page
  entry_number_lem i h =
      let L = named_pieces C B in
      let b = i / 252 in
      let j = i % 252 in
      let e : 3 + j ≡ 2 + suc j = omega arith in
      let d : 252 * b + j ≡ i = omega arith in
      ap (λ (k : ℕ). number_at (entry_sheet C p B) (256 * b + k)) e
      ∙ held_written entry_number C (entries_held p L) (entries_full p L) (entry_blocks (length L)) low numbers_low held_low b (suc j) (omega arith) (omega arith)
      ∙ values_at (leaf_or_zero (length L) L) (252 * b) 252 j (omega arith) ∙ list_word (252 * b + j) ∙ ap (λ (k : ℕ). get_or L k 0) d

  list_fits : length (named_pieces C B) ≤ 252 * entry_blocks (length (named_pieces C B))
  unfolding entry_blocks
  list_fits = omega arith

  entry_spelled : Spelled (entry_in (entry_sheet C p B)) C B (replicate C 0) 0 0 0 12
  unfolding entry_blocks
  entry_spelled =
      block_spelled (entry_in (entry_sheet C p B)) C sized.few B 12 (replicate C 0) 0 0 0 0 (omega arith) refl (omega arith) (length-replicate {A = ℕ} C 0)
      (λ j p r. zero_at C j) (λ j h. ap (entry_in (entry_sheet C p B)) (zero-add j) ∙ entry_number_lem j (omega arith))

  pub entry_leaves : spelled C (entry_sheet C p B) ≡ take C B
  unfolding spelled
  entry_leaves =
      let n = entry_blocks (length (named_pieces C B)) in
      let slots : length (entry_sheet C p B) / 512 ≡ n = omega (arith, entry_sheet_length C p B) in
      rw slots
      (spelled_board (entry_in (entry_sheet C p B)) C sized.few B sized.long n entry_spelled list_fits
      (λ h. entry_number_lem (3 * entry_spelled.count) h ∙ get_or-eq_default (named_pieces C B) 0 (omega (arith, entry_spelled.counted))))

-- ---- the piece form is exact, and saved at any position

entry_taken : (C p : ℕ) (B D : List ℕ) → take C B ≡ take C D → entry_sheet C p B ≡ entry_sheet C p D
unfolding entry_sheet
entry_taken C p B D e = ap (λ (L : List ℕ). entry_bytes C p (length L) L)
    (named_same C B D (λ i h. sym (get_or-take C B i 0 h) ∙ ap (λ (L : List ℕ). get_or L i 0) e ∙ get_or-take C D i 0 h) 0 12)

pub entries_laid_parts : (C : ℕ) (s : List ℕ) → entries_laid C s ≡ true → (position_check C (position_in s) ≡ Ok tt) × (s ≡ entry_sheet C (position_in s) (spelled C s))
unfolding entries_laid
entries_laid_parts C s h =
    let at = is_clear (position_check C (position_in s)) in
    let is = same s (entry_sheet C (position_in s) (spelled C s)) in
    (is_clear_lem (position_check C (position_in s)) (and_left at is h), same_true s (entry_sheet C (position_in s) (spelled C s)) (and_right at is h))

pub parts_entries_laid : (C : ℕ) (s : List ℕ) → position_check C (position_in s) ≡ Ok tt → s ≡ entry_sheet C (position_in s) (spelled C s) → entries_laid C s ≡ true
unfolding entries_laid
parts_entries_laid C s at is = rw at (true_same s (entry_sheet C (position_in s) (spelled C s)) is)

entry_laid : (C p : ℕ) (B : List ℕ) → Sized C B → Words B → position_check C p ≡ Ok tt → entries_laid C (entry_sheet C p B) ≡ true
entry_laid C p B s w at =
    let q = entry_position C p B s w at in
    parts_entries_laid C (entry_sheet C p B) (rw q at)
    (rw (q, entry_leaves C p B s w at) (entry_taken C p B (take C B) (sym (take_all C (take C B) (omega (arith, length-take-le C B s.long))))))

pub entries_exact : Exact piece_form (λ C p. position_check C p ≡ Ok tt)
unfolding entry_blocks
entries_exact = record {
  asks = λ d B n e.
      let slot = entry_slot d B n e in (
        slot_sized d B slot,
        entry_good d B n e,
        then_clear (open_check d.capacity B) (position_check d.capacity d.position) (sym (slot_parts d B) ∙ slot),
        entry_room d B n e,
      );
  lets = λ C p B n s g at room.
      let d = drive_at C p in
      entry_parts d B n ∙ rw (slot_parts d B, open_sized C B s, at, good_check_lem C B g, le-ltb n (size_of piece_form d B) room) refl;
  long = entry_sheet_length;
  least = λ C B pos. omega arith;
  taken = entry_taken;
  capacity = λ C p B s w at. entry_capacity C p B s w at;
  keeps = λ C p B s w at. entry_laid C p B s w at;
  position = λ C p B s w at. entry_position C p B s w at;
  leaves = λ C p B s w at. entry_leaves C p B s w at;
  only = λ C s bytes h. (entries_laid_parts C s h).1;
  at = λ C s h. (entries_laid_parts C s h).0;
  spelled = spelled_length;
}
