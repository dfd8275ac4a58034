-- What a command does and what the console prints of it: document 01, "Console", and document 02, No. 2 and No. 5. What the calls do is the promises
-- of `orders`, `waiting` and, for a round, `calls`. B is the board, L the waiting list.
-- Assumes nothing.
use Rattle.std.specs.Prelude.{◌≡◌, cond, ◌||◌, List, [], ◌∷◌, ℕ, ◌≤◌, leb, eqb, length, Option, Some, None, Ok, Err}
use Rattle.std.proofs.lemmas.List.Edits.{sets}
use Rattle.calls.specs.declared.Drive.{Drive}
use Rattle.calls.specs.Types.{Check, Serving}
use Rattle.calls.specs.Refusals.{number_of, round_check}
use Rattle.calls.specs.Results.{if_clear, round_names}
use Rattle.waiting.specs.Types.{Fetching}
use Rattle.waiting.specs.declared.Unfetched.TheVariants as unfetched
use Rattle.waiting.specs.Layout.{fetched, fetched_list}
use Rattle.orders.specs.Types.{Ordering}
use Rattle.orders.specs.declared.Accepted.TheVariants as accepted
use Rattle.orders.specs.declared.Declined.TheVariants as declined
use Rattle.orders.specs.Results.{opened, opened_board, opened_list, add_order, remove_order, changed, changed_board, changed_list, served, served_board, served_list}
use Rattle.lines.specs.declared.Command.{Command}
use Rattle.lines.specs.declared.Command.TheVariants.{Open, Add, Remove, Slot, Round, Fetch}
use Rattle.lines.specs.declared.talking.Stepped.{Stepped}
use Rattle.lines.specs.Grammar.{parsed}
use Rattle.lines.specs.Printing.{line, unknown_line}

-- "Output: the answer number (0 for done), then for add and remove the idle leaves, for slot the name and leaf, for round the C names.
-- A refusal prints its number alone"; ROOM prints 10 and the idle leaves (document 02, No. 5). Of open, and of a round with its names:
abbrev pub check_line : Check → List ℕ → List ℕ
check_line (Ok tt) names = line 0 names
check_line (Err r) names = line (number_of r) []

-- No. 5: 10 and the idle leaves there are. No. 2: 13 and the ticket; 14.
abbrev pub ordering_line : Ordering → List ℕ
ordering_line (Ok (accepted.Done idle)) = line 0 (idle ∷ [])
ordering_line (Err (declined.Room idle)) = line 10 (idle ∷ [])
ordering_line (Ok (accepted.Waiting ticket)) = line 13 (ticket ∷ [])
ordering_line (Err declined.Queue) = line 14 []
ordering_line (Err (declined.Refused r)) = line (number_of r) []

abbrev pub serving_line : Serving → List ℕ
serving_line (Ok s) = line 0 (s.name ∷ s.leaf ∷ [])
serving_line (Err r) = line (number_of r) []

-- a round is written to an output of 4,095 entries
unfoldable pub round_line : Drive → List ℕ → List ℕ
round_line d B = check_line (round_check d B 4095) (round_names d.capacity B)

-- an answer that was fetched, as the change would have printed it: the idle leaves after 0 and after 10, any other number alone
abbrev pub outcome_line : ℕ → ℕ → List ℕ
outcome_line n v = cond (eqb n 0 || eqb n 10) (line n (v ∷ [])) (line n [])

-- "`fetch TICKET` .. prints what it fetched": the answer; 13 and the ticket while the order waits; 15 for no known ticket
abbrev pub fetching_line : Fetching → List ℕ
fetching_line (Ok said) = outcome_line said.number said.value
fetching_line (Err (unfetched.Waits ticket)) = line 13 (ticket ∷ [])
fetching_line (Err unfetched.Unknown) = line 15 []

-- the line printed for a command, of a record, a board and a list
unfoldable pub reply_line : Option Command → Drive → List ℕ → List ℕ → List ℕ
reply_line (Some (Open C)) d B L = check_line (opened C B (length L)).answer []
reply_line (Some (Add x w)) d B L = ordering_line (changed d B L (add_order x w)).answer
reply_line (Some (Remove x)) d B L = ordering_line (changed d B L (remove_order x)).answer
reply_line (Some Slot) d B L = serving_line (served d B L).answer
reply_line (Some Round) d B L = round_line d B
reply_line (Some (Fetch t)) d B L = fetching_line (fetched L t)
reply_line None d B L = unknown_line

-- the record after a command; "a refused open keeps the old record"
unfoldable pub drive_after : Option Command → Drive → List ℕ → List ℕ → Drive
drive_after (Some (Open C)) d B L = if_clear (opened C B (length L)).answer (opened C B (length L)).drive d
drive_after (Some (Add x w)) d B L = (changed d B L (add_order x w)).drive
drive_after (Some (Remove x)) d B L = (changed d B L (remove_order x)).drive
drive_after (Some Slot) d B L = (served d B L).drive
drive_after (Some Round) d B L = d
drive_after (Some (Fetch t)) d B L = d
drive_after None d B L = d

-- the board after a command
unfoldable pub board_after : Option Command → Drive → List ℕ → List ℕ → List ℕ
board_after (Some (Open C)) d B L = opened_board C B (length L)
board_after (Some (Add x w)) d B L = changed_board d B L (add_order x w)
board_after (Some (Remove x)) d B L = changed_board d B L (remove_order x)
board_after (Some Slot) d B L = served_board d B L
board_after (Some Round) d B L = B
board_after (Some (Fetch t)) d B L = B
board_after None d B L = B

-- the list after a command
unfoldable pub list_after : Option Command → Drive → List ℕ → List ℕ → List ℕ
list_after (Some (Open C)) d B L = opened_list C B L
list_after (Some (Add x w)) d B L = changed_list d B L (add_order x w)
list_after (Some (Remove x)) d B L = changed_list d B L (remove_order x)
list_after (Some Slot) d B L = served_list d B L
list_after (Some Round) d B L = L
list_after (Some (Fetch t)) d B L = fetched_list L t
list_after None d B L = L

-- room for any reply: an answer number of two digits, 4,095 values of five digits, each after a space, and a line feed
abbrev pub reply_bytes : ℕ
reply_bytes = 24573

-- A line was written to the start of the lent bytes, and nothing else of them changed: n is how many bytes it has.
pub record Written (said : List ℕ) (out : List ℕ) (n : ℕ) (out' : List ℕ) : Type 0 where
  pub to : n ≡ length said
  pub bytes : out' ≡ sets out 0 said
  pub within : n ≤ reply_bytes

-- A line was written, and the record is d.
pub record Told (d : Drive) (said : List ℕ) (out : List ℕ) (r : Stepped) (out' : List ℕ) : Type 0 where
  pub drive : r.drive ≡ d
  pub written : Written said out r.to out'

-- ---- one line

-- what a step over a line gives: the record after the command that the line is, and how many bytes its reply has; with less room than a reply may need, nothing is done
abbrev pub stepped : List ℕ → Drive → List ℕ → List ℕ → List ℕ → Stepped
stepped l d B L O =
    cond (leb reply_bytes (length O))
    (record { drive = drive_after (parsed l) d B L; to = length (reply_line (parsed l) d B L) })
    (record { drive = d; to = 0 })

abbrev pub stepped_board : List ℕ → Drive → List ℕ → List ℕ → List ℕ → List ℕ
stepped_board l d B L O = cond (leb reply_bytes (length O)) (board_after (parsed l) d B L) B

abbrev pub stepped_list : List ℕ → Drive → List ℕ → List ℕ → List ℕ → List ℕ
stepped_list l d B L O = cond (leb reply_bytes (length O)) (list_after (parsed l) d B L) L

-- the reply stands at the start of the lent bytes, and the bytes after it are as they were
abbrev pub stepped_bytes : List ℕ → Drive → List ℕ → List ℕ → List ℕ → List ℕ
stepped_bytes l d B L O = cond (leb reply_bytes (length O)) (sets O 0 (reply_line (parsed l) d B L)) O

-- What a step over a line l promises: the result, and the board, the list and the lent bytes at exit.
abbrev pub Steps : List ℕ → Drive → List ℕ → List ℕ → List ℕ → Stepped → List ℕ → List ℕ → List ℕ → Type 0
Steps l d B L O r B'' L' O' =
    (r ≡ stepped l d B L O) × (B'' ≡ stepped_board l d B L O) × (L' ≡ stepped_list l d B L O) × (O' ≡ stepped_bytes l d B L O)
