-- A refusal leaves the image and the lent memories as they were.
-- Assumes nothing.
use mathlib.Core.Path.{◌≡◌, refl, ap, ◌∙◌}
use mathlib.Core.Bool.{Bool, true, false, cond}
use mathlib.Core.List.{List}
use Prim.Native.Nat.{ℕ}
use borrow.Author.Tests.{ne_eqb}
use lib.ListN.{length}
use Rattle.board.specs.Calls.{Written, store_call, write_call}
use Rattle.board.specs.Steps.{machine}
use Rattle.board.specs.declared.record.Board.{Board}
use Rattle.board.specs.Feeding.{line, feed_call}
use Rattle.board.proofs.Feeds.{refused-feed}
use Rattle.board.specs.Picturing.{import_call}
use Rattle.board.proofs.Imports.{export-board, export-stays, import-stays}
use Rattle.board.proofs.Refused.{post-given, Stays, store-stays, write-stays, run-halts}
use Rattle.pramolyt.specs.Image.{words, words_of, board_of, flags_ok}
use Rattle.pramolyt.specs.Exports.{of_image, Posted, post_image, Changed, changed, changed_by, store_image, write_image, Pictured, export_image, import_image, Ran, run_image, Received, feed_image, RefusedPost, RefusedStore, RefusedWrite, RefusedExport, RefusedImport, RefusedRun, RefusedFeed}
use Rattle.pramolyt.proofs.RoundTrips.{encodes-decoded}

judged : {A : Type 0} (P : A → Type 0) (w : List ℕ) {done stays : A} → (flags_ok w ≡ true → P done) → P stays → P (of_image w done stays)
judged P w {done} {stays} p q = for (flags_ok w) refl
  where
    for : (t : Bool) → flags_ok w ≡ t → P (cond t done stays)
    for true e = p e
    for false e = q

same : (w : List ℕ) → length w ≡ words → flags_ok w ≡ true → {b : Board} → b ≡ board_of w → words_of b ≡ w
same w long ok e = ap words_of e ∙ encodes-decoded w long ok

pub refused_post : RefusedPost
unfolding post_image
refused_post w list start count long =
    judged (λ (r : Posted). (r.number ≡ 0 → ⊥) → r.words ≡ w) w (λ ok n. same w long ok (post-given list start count (board_of w) n)) (λ n. refl)

changed-refused : (w memory : List ℕ) → length w ≡ words → (r : Written) → Stays (board_of w) memory r
    → let c = of_image w (changed_by r) (changed 1 w memory) in (c.number ≡ 0 → ⊥) → (c.words ≡ w) × (c.memory ≡ memory)
changed-refused w memory long r s =
    judged (λ (c : Changed). (c.number ≡ 0 → ⊥) → (c.words ≡ w) × (c.memory ≡ memory)) w
    (λ ok n. (same w long ok (s n).0, (s n).1))
    (λ n. (refl, refl))

pub refused-store : RefusedStore
unfolding store_image
refused-store w list first bytes long =
    changed-refused w list long (store_call list first bytes (board_of w)) (store-stays list first bytes (board_of w))

pub refused-write : RefusedWrite
unfolding write_image
refused-write w number offset bytes buffer long =
    changed-refused w buffer long (write_call number offset bytes buffer (board_of w)) (write-stays number offset bytes buffer (board_of w))

pub refused-import : RefusedImport
unfolding import_image
refused-import w number picture buffer long =
    changed-refused w buffer long (import_call number picture buffer (board_of w)) (import-stays number picture buffer (board_of w))

pub refused-export : RefusedExport
unfolding export_image
refused-export w number buffer output long =
    judged (λ (r : Pictured). (r.words ≡ w) × ((r.number ≡ 0 → ⊥) → (r.output ≡ output) × (r.written ≡ 0))) w
    (λ ok. (same w long ok (export-board number buffer output (board_of w)), export-stays number buffer output (board_of w)))
    (refl, λ n. (refl, refl))

pub refused-run : RefusedRun
unfolding run_image
refused-run w budget list display virt long =
    let m = machine (board_of w) display virt in
    judged (λ (r : Ran). (r.number ≡ 0 → ⊥) → (r.number ≡ 9 → ⊥) → (r.words ≡ w) × (r.display ≡ display) × (r.virt ≡ virt)) w
    (λ ok n k.
    let s = run-halts budget list m n k in
    (same w long ok (ap (λ m. m.board) s), ap (λ m. m.display) s, ap (λ m. m.virt) s))
    (λ n k. (refl, refl, refl))

pub refused-feed-image : RefusedFeed
unfolding feed_image
refused-feed-image w f list piece long =
    judged (λ (r : Received). (r.number ≡ 0 → ⊥) → (r.words ≡ w) × (r.feed ≡ f) × (r.memory ≡ list)) w
    (λ ok n.
    let s = refused-feed (line (board_of w) f list) piece (ne_eqb (feed_call list f piece (board_of w)).report.number 0 n) in
    (same w long ok (ap (λ s. s.board) s), ap (λ s. s.feed) s, ap (λ s. s.memory) s))
    (λ n. (refl, refl, refl))
