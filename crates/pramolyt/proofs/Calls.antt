-- A call on an image answers as the call on its record, and is refused where the image is no record's.
-- Assumes nothing.
use mathlib.Core.Path.{◌≡◌, refl, ap, sym, ◌∙◌}
use mathlib.Core.Bool.{Bool, true, false}
use mathlib.Core.List.{List}
use Prim.Native.Nat.{ℕ}
use Rattle.std.specs.Prelude.{Result}
use Rattle.answers.specs.Reports.{report_of}
use Rattle.answers.specs.declared.Refusal.{Refusal}
use Rattle.board.specs.Calls.{reply, make_call, post_call, written, store_call, write_call}
use Rattle.board.specs.Steps.{machine}
use Rattle.board.specs.Runs.{run_call}
use Rattle.board.specs.Feeding.{feed_reply, feed_call}
use Rattle.board.specs.Picturing.{exported, exported_as, export_call, import_call}
use Rattle.board.specs.declared.answer.ExportAnswer.{ExportAnswer}
use Rattle.board.specs.declared.answer.FeedAnswer.{FeedAnswer}
use Rattle.feeds.specs.declared.Feed.{Feed}
use Rattle.board.specs.declared.answer.Answer.{Answer}
use Rattle.board.specs.declared.record.Board.{Board}
use Rattle.pramolyt.specs.Image.{words_of, board_of, flags_ok}
use Rattle.pramolyt.specs.Exports.{of_image, made, made_by, make_image, posted, posted_by, post_image, changed, changed_by, store_image, write_image, pictured, pictured_by, export_image, import_image, Ran, ran, ran_by, run_image, received, received_by, feed_image}

-- a flag is neither 0 nor 1
module _ (w : List ℕ) (t : Bool) (judged : t ≡ flags_ok w) (bad : t ≡ false) where
  refused : {A : Type 0} (done stays : A) → stays ≡ of_image w done stays
  refused done stays = rw (← judged, bad)

  pub post-refused : (list : List ℕ) (start count : ℕ) → posted 1 w 0 ≡ post_image w list start count
  unfolding post_image
  post-refused list start count = refused (posted_by (post_call list start count (board_of w))) (posted 1 w 0)

  pub store-refused : (list : List ℕ) (first : ℕ) (bytes : List ℕ) → changed 1 w list ≡ store_image w list first bytes
  unfolding store_image
  store-refused list first bytes = refused (changed_by (store_call list first bytes (board_of w))) (changed 1 w list)

  pub write-refused : (number offset : ℕ) (bytes buffer : List ℕ) → changed 1 w buffer ≡ write_image w number offset bytes buffer
  unfolding write_image
  write-refused number offset bytes buffer =
      refused (changed_by (write_call number offset bytes buffer (board_of w))) (changed 1 w buffer)

  pub export-refused : (number : ℕ) (buffer output : List ℕ) → pictured 1 w 0 output ≡ export_image w number buffer output
  unfolding export_image
  export-refused number buffer output = refused (pictured_by (export_call number buffer output (board_of w))) (pictured 1 w 0 output)

  pub import-refused : (number : ℕ) (picture buffer : List ℕ) → changed 1 w buffer ≡ import_image w number picture buffer
  unfolding import_image
  import-refused number picture buffer = refused (changed_by (import_call number picture buffer (board_of w))) (changed 1 w buffer)

  pub run-refused : (budget : ℕ) (list display virt : List ℕ) → ran 1 w 0 display virt ≡ run_image w budget list display virt
  unfolding run_image
  run-refused budget list display virt =
      refused (ran_by (run_call budget list (machine (board_of w) display virt))) (ran 1 w 0 display virt)

  pub feed-refused : (f : Feed) (list piece : List ℕ) → received 1 w f list ≡ feed_image w f list piece
  unfolding feed_image
  feed-refused f list piece = refused (received_by (feed_call list f piece (board_of w))) (received 1 w f list)

-- a call on the record of an image
module _ (w : List ℕ) (t : Bool) (judged : t ≡ flags_ok w) (good : t ≡ true) (b : Board) (decoded : b ≡ board_of w) where
  on-record : {A R : Type 0} (handed : R → A) (call : Board → R) (r : R) → r ≡ call b → (stays : A)
      → handed r ≡ of_image w (handed (call (board_of w))) stays
  on-record handed call r answered stays = rw (← judged, good, answered, decoded)

  pub feed-done : (a : FeedAnswer) (words : List ℕ) → words ≡ words_of a.board → (number : ℕ) → number ≡ (report_of a.status).number
      → (f : Feed) (list piece memory : List ℕ) → feed_reply a memory ≡ feed_call list f piece b
      → received number words a.feed memory ≡ feed_image w f list piece
  unfolding feed_image
  feed-done a words encoded number numbered f list piece memory answered =
      rw (encoded, numbered) (on-record received_by (feed_call list f piece) (feed_reply a memory) answered (received 1 w f list))

  pub export-done : (a : ExportAnswer) (r : Result ℕ Refusal) → a.written ≡ r → (n : ℕ) (buffer output after : List ℕ)
      → exported a after ≡ export_call n buffer output b → pictured_by (exported_as a.board r after) ≡ export_image w n buffer output
  unfolding export_image
  export-done a r is n buffer output after answered =
      ap (λ r. pictured_by (exported_as a.board r after)) (sym is)
      ∙ on-record pictured_by (export_call n buffer output) (exported a after) answered (pictured 1 w 0 output)

-- an answer handed back
module _ (a : Answer) (words : List ℕ) (encoded : words ≡ words_of a.board) (number : ℕ) (numbered : number ≡ (report_of a.status).number) where
  pub make-done : (width height entries : ℕ) → reply a ≡ make_call width height entries → made number words ≡ make_image width height entries
  unfolding make_image
  make-done width height entries answered = rw (encoded, numbered) (ap made_by answered)

  -- the call on the record of an image
  module _ (w : List ℕ) (t : Bool) (judged : t ≡ flags_ok w) (good : t ≡ true) (b : Board) (decoded : b ≡ board_of w) where
    abbrev done : {A R : Type 0} (handed : R → A) (call : Board → R) (r : R) → r ≡ call b → (stays : A)
        → handed r ≡ of_image w (handed (call (board_of w))) stays
    done = on-record w t judged good b decoded

    pub post-done : (list : List ℕ) (start count : ℕ) → reply a ≡ post_call list start count b → (place : ℕ)
        → place ≡ (report_of a.status).place → posted number words place ≡ post_image w list start count
    unfolding post_image
    post-done list start count answered place placed =
        rw (encoded, numbered, placed) (done posted_by (post_call list start count) (reply a) answered (posted 1 w 0))

    pub store-done : (list : List ℕ) (first : ℕ) (bytes memory : List ℕ) → written a memory ≡ store_call list first bytes b
        → changed number words memory ≡ store_image w list first bytes
    unfolding store_image
    store-done list first bytes memory answered =
        rw (encoded, numbered) (done changed_by (store_call list first bytes) (written a memory) answered (changed 1 w list))

    pub write_done : (n offset : ℕ) (bytes buffer memory : List ℕ) → written a memory ≡ write_call n offset bytes buffer b
        → changed number words memory ≡ write_image w n offset bytes buffer
    unfolding write_image
    write_done n offset bytes buffer memory answered =
        rw (encoded, numbered) (done changed_by (write_call n offset bytes buffer) (written a memory) answered (changed 1 w buffer))

    pub import-done : (n : ℕ) (picture buffer memory : List ℕ) → written a memory ≡ import_call n picture buffer b
        → changed number words memory ≡ import_image w n picture buffer
    unfolding import_image
    import-done n picture buffer memory answered =
        rw (encoded, numbered) (done changed_by (import_call n picture buffer) (written a memory) answered (changed 1 w buffer))

-- a run of the record of an image
pub run-done : (w : List ℕ) (t : Bool) → t ≡ flags_ok w → t ≡ true → (budget : ℕ) (list display virt : List ℕ) (r : Ran)
    → r ≡ ran_by (run_call budget list (machine (board_of w) display virt)) → r ≡ run_image w budget list display virt
unfolding run_image
run-done w t judged good budget list display virt r is =
    is ∙ on-record w t judged good (board_of w) refl (λ (r : Ran). r) (λ b. ran_by (run_call budget list (machine b display virt)))
    (ran_by (run_call budget list (machine (board_of w) display virt))) refl (ran 1 w 0 display virt)
