-- The laws of the console's language that others cite.
--   `parsed_kept`, `parsed_long`: a line that is longer than the longest command is not understood, so that what is kept of it decides what it is.
--   `console_said`: from its start to the end of the input, the console prints the answers of the input's lines, in order.
--   `fed_part`, `fed_some`: a feed hears a first part of its input, and with room for a reply at least one byte of it.
--   `heard_append`, `said_parts`, `left_parts`: what is said of an input is what is said of its parts, one after the other, and so is what it leaves.
--   `fetched_printed`: what an order leaves to be fetched is printed as its change would have been, made at once.
--   `step_unique`, `answered_unique`: no second answer fits the promises of `step`, `feed` and `finish`. Assumes nothing.
pub use Rattle.lines.proofs.Lengths.{parsed_kept, parsed_long}
pub use Rattle.lines.proofs.Inputs.{console_said}
pub use Rattle.lines.proofs.Parts.{fed_part, fed_some, heard_append, said_parts, left_parts}
pub use Rattle.lines.proofs.Unique.{step_unique, answered_unique}
pub use Rattle.lines.proofs.Fetched.{fetched_printed}
