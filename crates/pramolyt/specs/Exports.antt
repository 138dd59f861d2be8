-- What each exported function does (01, What the host hears): the answer's number, the image after the call, a post's
-- place and a run's steps, and each memory that it is lent to write.
use Rattle.std.specs.Prelude.{◌≡◌, cond, List, ℕ, length}
use Rattle.board.specs.Calls.{Reply, make_call, post_call, Written, store_call, write_call}
use Rattle.board.specs.Steps.{machine}
use Rattle.board.specs.Runs.{Outcome, run_call}
use Rattle.board.specs.Feeding.{FeedReply, feed_call}
use Rattle.board.specs.Picturing.{Exported, export_call, import_call}
use Rattle.feeds.specs.declared.Feed.{Feed}
use Rattle.packing.specs.Conversions.{Converted, pack_of, unpack_of}
use Rattle.pramolyt.specs.Image.{words, words_of, board_of, flags_ok}

-- An image with a flag that is neither 0 nor 1, or with words of a tile that is not held, is no record's: the answer is 1, "record
-- malformed".
abbrev pub of_image : {A : Type 0} → List ℕ → A → A → A
of_image w done refused = cond (flags_ok w) done refused

-- ---- make
pub record Made : Type 0 where
  pub number : ℕ
  pub words : List ℕ

abbrev pub made : ℕ → List ℕ → Made
made number words = record { number = number; words = words }

abbrev pub made_by : Reply → Made
made_by r = made r.report.number (words_of r.board)

-- "Make: 2, returning then the fresh 1 by 1 board with 1 entry." The image that stood there is not read.
unfoldable pub make_image : ℕ → ℕ → ℕ → Made
make_image width height entries = made_by (make_call width height entries)

-- ---- post
pub record Posted : Type 0 where
  pub number : ℕ
  pub words : List ℕ
  pub place : ℕ

abbrev pub posted : ℕ → List ℕ → ℕ → Posted
posted number words place = record { number = number; words = words; place = place }

abbrev pub posted_by : Reply → Posted
posted_by r = posted r.report.number (words_of r.board) r.report.place

-- "Post: 1 to 6." "The place is zero but in 6".
unfoldable pub post_image : List ℕ → List ℕ → ℕ → ℕ → Posted
post_image w list start count = of_image w (posted_by (post_call list start count (board_of w))) (posted 1 w 0)

-- ---- store and window write
pub record Changed : Type 0 where
  pub number : ℕ
  pub words : List ℕ
  pub memory : List ℕ

abbrev pub changed : ℕ → List ℕ → List ℕ → Changed
changed number words memory = record { number = number; words = words; memory = memory }

abbrev pub changed_by : Written → Changed
changed_by r = changed r.report.number (words_of r.board) r.memory

-- "List store: 1, 2, 4, 8."
unfoldable pub store_image : List ℕ → List ℕ → ℕ → List ℕ → Changed
store_image w list first bytes = of_image w (changed_by (store_call list first bytes (board_of w))) (changed 1 w list)

-- "Window write (buffer, offset, bytes): 1, 2, 4, 7." The memory is the buffer that is named.
unfoldable pub write_image : List ℕ → ℕ → ℕ → List ℕ → List ℕ → Changed
write_image w number offset bytes buffer =
    of_image w (changed_by (write_call number offset bytes buffer (board_of w))) (changed 1 w buffer)

-- ---- export and import (02, R-9)
pub record Pictured : Type 0 where
  pub number : ℕ
  pub words : List ℕ
  pub written : ℕ
  pub output : List ℕ

abbrev pub pictured : ℕ → List ℕ → ℕ → List ℕ → Pictured
pictured number words written output = record { number = number; words = words; written = written; output = output }

abbrev pub pictured_by : Exported → Pictured
pictured_by r = pictured r.report.number (words_of r.board) r.written r.output

-- Export: "1; 2 for board buffers; 4 exactly where the output is shorter than the picture needs".
unfoldable pub export_image : List ℕ → ℕ → List ℕ → List ℕ → Pictured
export_image w number buffer output =
    of_image w (pictured_by (export_call number buffer output (board_of w))) (pictured 1 w 0 output)

-- Import: 1, 2, 7, 11. The memory is the buffer that is named.
unfoldable pub import_image : List ℕ → ℕ → List ℕ → List ℕ → Changed
import_image w number picture buffer = of_image w (changed_by (import_call number picture buffer (board_of w))) (changed 1 w buffer)

-- ---- run
pub record Ran : Type 0 where
  pub number : ℕ
  pub words : List ℕ
  pub steps : ℕ
  pub display : List ℕ
  pub virt : List ℕ

abbrev pub ran : ℕ → List ℕ → ℕ → List ℕ → List ℕ → Ran
ran number words steps display virt =
    record { number = number; words = words; steps = steps; display = display; virt = virt }

abbrev pub ran_by : Outcome → Ran
ran_by o = ran o.report.number (words_of o.after.board) o.report.steps o.after.display o.after.virt

-- "Run: 1, 2, 9." The step count is zero "but in 9 and in a done run".
unfoldable pub run_image : List ℕ → ℕ → List ℕ → List ℕ → List ℕ → Ran
run_image w budget list display virt =
    of_image w (ran_by (run_call budget list (machine (board_of w) display virt))) (ran 1 w 0 display virt)

-- ---- feed (02, R-5): both records and list memory after it. A feed record is lent by its three fields.
abbrev pub feed_of : ℕ → List ℕ → ℕ → Feed
feed_of next held count = record { next = next; held = held; count = count }

pub record Received : Type 0 where
  pub number : ℕ
  pub words : List ℕ
  pub feed : Feed
  pub memory : List ℕ

abbrev pub received : ℕ → List ℕ → Feed → List ℕ → Received
received number words feed memory = record { number = number; words = words; feed = feed; memory = memory }

abbrev pub received_by : FeedReply → Received
received_by r = received r.report.number (words_of r.after.board) r.after.feed r.after.memory

-- "1 for a malformed board record or a bad feed record ..; 2; 4 and 8"
unfoldable pub feed_image : List ℕ → Feed → List ℕ → List ℕ → Received
feed_image w f list piece = of_image w (received_by (feed_call list f piece (board_of w))) (received 1 w f list)

-- ---- pack and unpack (02, R-4): "returning the bytes written"
pub record Filed : Type 0 where
  pub number : ℕ
  pub written : ℕ
  pub place : ℕ
  pub output : List ℕ

abbrev pub filed : ℕ → ℕ → ℕ → List ℕ → Filed
filed number written place output = record { number = number; written = written; place = place; output = output }

abbrev pub filed_by : Converted → Filed
filed_by c = filed c.report.number c.report.written c.report.place c.output

unfoldable pub pack_file : List ℕ → List ℕ → Filed
pack_file input output = filed_by (pack_of input output)

unfoldable pub unpack_file : List ℕ → List ℕ → Filed
unpack_file input output = filed_by (unpack_of input output)

-- ---- refusals: "record as given", and "Lent bytes that no rule writes stay, and in a refusal other than 9 all stay.";
-- proved in proofs/Refusals.antt
abbrev pub RefusedPost : Type 0
RefusedPost =
    (w list : List ℕ) (start count : ℕ) → length w ≡ words → let r = post_image w list start count in
    (r.number ≡ 0 → ⊥) → r.words ≡ w

abbrev pub RefusedStore : Type 0
RefusedStore =
    (w list : List ℕ) (first : ℕ) (bytes : List ℕ) → length w ≡ words → let r = store_image w list first bytes in
    (r.number ≡ 0 → ⊥) → (r.words ≡ w) × (r.memory ≡ list)

abbrev pub RefusedWrite : Type 0
RefusedWrite =
    (w : List ℕ) (number offset : ℕ) (bytes buffer : List ℕ) → length w ≡ words → let r = write_image w number offset bytes buffer in
    (r.number ≡ 0 → ⊥) → (r.words ≡ w) × (r.memory ≡ buffer)

-- An export leaves the image in every case.
abbrev pub RefusedExport : Type 0
RefusedExport =
    (w : List ℕ) (number : ℕ) (buffer output : List ℕ) → length w ≡ words → let r = export_image w number buffer output in
    (r.words ≡ w) × ((r.number ≡ 0 → ⊥) → (r.output ≡ output) × (r.written ≡ 0))

abbrev pub RefusedImport : Type 0
RefusedImport =
    (w : List ℕ) (number : ℕ) (picture buffer : List ℕ) → length w ≡ words → let r = import_image w number picture buffer in
    (r.number ≡ 0 → ⊥) → (r.words ≡ w) × (r.memory ≡ buffer)

abbrev pub RefusedRun : Type 0
RefusedRun =
    (w : List ℕ) (budget : ℕ) (list display virt : List ℕ) → length w ≡ words → let r = run_image w budget list display virt in
    (r.number ≡ 0 → ⊥) → (r.number ≡ 9 → ⊥) → (r.words ≡ w) × (r.display ≡ display) × (r.virt ≡ virt)

-- "Refusals, which hand both records back as given".
abbrev pub RefusedFeed : Type 0
RefusedFeed =
    (w : List ℕ) (f : Feed) (list piece : List ℕ) → length w ≡ words → let r = feed_image w f list piece in
    (r.number ≡ 0 → ⊥) → (r.words ≡ w) × (r.feed ≡ f) × (r.memory ≡ list)
