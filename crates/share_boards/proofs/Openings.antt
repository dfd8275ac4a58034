-- What the code of open and read needs: what is known once nothing that is lent is too short, and that both are then as without tables.
-- Assumes nothing.
use mathlib.Core.Path.{◌≡◌, refl, ◌∙◌}
use mathlib.Core.Bool.{◌||◌}
use mathlib.Core.List.{List, ◌++◌}
use Prim.Native.Nat.{ℕ, ◌≤◌}
use native.Mathlib.Omega.{arith}
use lib.ListN.{length, drop}
use borrow.Author.Tests.{ltb-false, le-ltb}
use Rattle.general.proofs.Laws.{neither}
use Rattle.tables.specs.Settling.{cleared_table}
use Rattle.calls.specs.declared.Refusal.{Refusal}
use Rattle.calls.specs.declared.Refusal.TheVariants.{Short}
use Rattle.calls.specs.Types.{Check, Checked}
use Rattle.std.specs.Prelude.{Ok, Err}
use Rattle.calls.specs.Records.{drive_at}
use Rattle.calls.specs.Refusals.{and_then, open_check}
use Rattle.calls.specs.Results.{if_clear}
use Rattle.calls.proofs.Laws.{first_clear, then_clear, open_clear, refuse_clear}
use Rattle.sheets.specs.Sheet.{capacity_in}
use Rattle.sheets.specs.Forms.{Form, head_check, sheet_check}
use Rattle.sheets.proofs.Laws.{head_open}
use Rattle.waiting.specs.Layout.{too_short}
use Rattle.orders.specs.Checks as plain
use Rattle.orders.specs.Promises as plainly
use Rattle.shares.specs.States.{BoardTables, lent}
use Rattle.shares.specs.Checks.{too_few}
use Rattle.share_boards.specs.Opening.{lent_check, opening_check, reading_check_as, cleared, Opens, LoadsAs}
use Rattle.shares.proofs.Laws.{few_long}

-- ---- 2

pub lent_long : (C : ℕ) (s : BoardTables) (n : ℕ) → lent_check C s n ≡ Ok tt → (259 ≤ n) × (C ≤ length s.rates) × (C ≤ length s.owed) × (C ≤ length s.other)
unfolding lent_check
lent_long C s n e =
    let f = neither (too_short n) (too_few C s) (refuse_clear (too_short n || too_few C s) Short (Ok tt) e).0 in
    let l = few_long C s f.1 in
    (ltb-false n 259 f.0, l.0, l.1, l.2)

-- ---- open

module _ (C : ℕ) (s : BoardTables) (n : ℕ) (e : opening_check C s n ≡ Ok tt) where
  opening_open : open_check C s.board ≡ Ok tt
  unfolding opening_check
  opening_open = first_clear (open_check C s.board) (lent_check C s n) e

  opening_lent : lent_check C s n ≡ Ok tt
  unfolding opening_check
  opening_lent = then_clear (open_check C s.board) (lent_check C s n) e

  -- what clearing the tables asks
  pub opening_ready : (C ≤ 4095) × (C ≤ length s.rates) × (C ≤ length s.owed) × (C ≤ length s.other)
  opening_ready =
      let l = lent_long C s n opening_lent in
      ((open_clear C s.board opening_open).few, l.1, l.2, l.3)

  -- the plain open finds nothing either
  pub opening_plain : plain.lent_check C s.board n ≡ Ok tt
  unfolding plain.lent_check
  opening_plain = rw (opening_open, le-ltb n 259 (lent_long C s n opening_lent).0) refl

pub open_done : (C : ℕ) (s : BoardTables) (L : List ℕ) → opening_check C s (length L) ≡ Ok tt → {r : Checked} {D M T E F : List ℕ} → plainly.Opens C s.board L r D M
    → T ≡ cleared_table C s.rates → E ≡ cleared_table C s.owed → F ≡ cleared_table C s.other → Opens C s L r (lent D T E F) M
open_done C s L e p t u v =
    let o = opening_plain C s (length L) e in
    (p.0 ∙ rw (o, e) refl, p.1 ∙ rw (o, e) refl, rw (p.2, o, e, t, u, v) refl, p.3 ∙ rw (o, e) refl)

-- ---- read

then_then : (j k l : Check) → and_then j (and_then k l) ≡ and_then (and_then j k) l
then_then (Ok tt) k l = refl
then_then (Err r) k l = refl

-- What read finds first: its plain first checks, then 2 of what is lent beside the board.
abbrev pub first_check : List ℕ → BoardTables → ℕ → Check
first_check S s n = and_then (head_check S s.board) (lent_check (capacity_in S) s n)

-- refused by these it is refused,
pub reading_refused : (form : Form) (S : List ℕ) (s : BoardTables) (n : ℕ) (r : Refusal) → first_check S s n ≡ Err r → reading_check_as form S s n ≡ Err r
unfolding reading_check_as
reading_refused form S s n r e =
    then_then (head_check S s.board) (lent_check (capacity_in S) s n) (sheet_check form (capacity_in S) S) ∙ rw e refl

-- and else it is read as without tables
module _ (S : List ℕ) (s : BoardTables) (n : ℕ) (e : first_check S s n ≡ Ok tt) where
  reading_head : head_check S s.board ≡ Ok tt
  reading_head = first_clear (head_check S s.board) (lent_check (capacity_in S) s n) e

  reading_lent : lent_check (capacity_in S) s n ≡ Ok tt
  reading_lent = then_clear (head_check S s.board) (lent_check (capacity_in S) s n) e

  pub reading_plain : (form : Form) → reading_check_as form S s n ≡ plain.reading_check form S s.board n
  unfolding reading_check_as plain.reading_check
  reading_plain form = rw (reading_head, reading_lent, le-ltb n 259 (lent_long (capacity_in S) s n reading_lent).0) refl

  pub reading_ready : (capacity_in S ≤ 4095) × (capacity_in S ≤ length s.rates) × (capacity_in S ≤ length s.owed) × (capacity_in S ≤ length s.other)
  reading_ready =
      let l = lent_long (capacity_in S) s n reading_lent in
      ((open_clear (capacity_in S) s.board (head_open S s.board reading_head)).few, l.1, l.2, l.3)

-- What it leaves, where the tables are cleared by the capacity that it returns, by what the check k finds.
taken : (k : Check) (C p : ℕ) (D B T E F : List ℕ)
    → let c = (if_clear k (drive_at C p) (drive_at 0 0)).capacity in
    lent (if_clear k D B) (cleared_table c T) (cleared_table c E) (cleared_table c F) ≡ if_clear k (cleared C D (lent B T E F)) (lent B T E F)
unfolding cleared_table
taken (Ok tt) C p D B T E F = refl
taken (Err r) C p D B T E F = refl

-- x is the result of the plain read, D and M the board and the list that it leaves
module _ (form : Form) (S B T E F L : List ℕ) (e : first_check S (lent B T E F) (length L) ≡ Ok tt) {x : Checked} {D M : List ℕ} (p : plainly.LoadsAs form S B L x D M) where
  -- a refused read has the capacity 0
  pub read_within : (x.drive.capacity ≤ 4095) × (x.drive.capacity ≤ length T) × (x.drive.capacity ≤ length E) × (x.drive.capacity ≤ length F)
  read_within = rw p.0 (go (plain.reading_check form S B (length L)))
    where
      go : (k : Check) → let c = (if_clear k (drive_at (capacity_in S) (form.position S)) (drive_at 0 0)).capacity in (c ≤ 4095) × (c ≤ length T) × (c ≤ length E) × (c ≤ length F)
      go (Ok tt) = reading_ready S (lent B T E F) (length L) e
      go (Err r) = omega arith

  pub read_takes : {y : Checked} {T' E' F' : List ℕ} → y ≡ x → T' ≡ cleared_table x.drive.capacity T → E' ≡ cleared_table x.drive.capacity E → F' ≡ cleared_table x.drive.capacity F
      → LoadsAs form S (lent B T E F) L y (lent D T' E' F') M
  read_takes q t u v =
      let k = plain.reading_check form S B (length L) in
      let C = capacity_in S in
      rw (q, t, u, v, reading_plain S (lent B T E F) (length L) e form)
      (p.0, p.1, rw (p.2, p.0) (taken k C (form.position S) (form.leaves C S ++ drop C B) B T E F), p.3)
