-- The paper board (01, The paper board of demand 3).
use Rattle.std.specs.Prelude.{Bool, true, false, cond, List, [], ◌∷◌, ◌++◌, ℕ, zero, suc, ◌*◌, eqb}
use Rattle.entries.specs.declared.decoding.Entry.{Entry}
use Rattle.lemmas.specs.Memory.{put_into}
use Rattle.geometry.specs.declared.Extent.{Extent}
use Rattle.lists.specs.Spans.{span_of}
use Rattle.lists.specs.Cursors.{entries_from}
use Rattle.lists.specs.declared.spans.Span.{Span}
use Rattle.pictures.specs.Pictures.{pixels_of}
use Rattle.feeds.specs.Feeds.{joined, completed}
use Rattle.feeds.specs.declared.Feed.{Feed}
use Rattle.commands.specs.Steps.{Scene, scene, visit_of, taken_of}
use Rattle.commands.specs.Wholes.{steps_of}

-- A call's "arguments other than the board record and the lent memories". The output that an export is lent is none of the board's
-- memories, and stands here.
pub data Call : Type 0 where
  post : ℕ → ℕ → Call
  store : ℕ → List ℕ → Call
  write : ℕ → ℕ → List ℕ → Call
  run : ℕ → Call
  feed : Feed → List ℕ → Call
  import : ℕ → List ℕ → Call
  export : ℕ → List ℕ → Call

-- What waits in the queue: a list, with the span that it was posted with and what is left of its copy; or a window write,
-- with buffer, offset and bytes.
pub data Item : Type 0 where
  posted : Span → List Entry → Item
  window : ℕ → ℕ → List ℕ → Item

-- "It has buffers and list memory of its own .. an empty queue, and all else that Steps and Pixels use".
pub record Paper : Type 0 where
  pub drawing : Scene
  pub list : List ℕ
  pub queue : List Item

abbrev pub paper : Scene → List ℕ → List Item → Paper
paper s l q = record { drawing = s; list = l; queue = q }

-- "A window write .. in front, it is done at once without a step and leaves."
abbrev pub written_to : ℕ → ℕ → List ℕ → Scene → Scene
written_to number offset bytes s =
    cond (eqb number 0) (scene s.engine s.fill (put_into s.display offset bytes) s.virt)
    (scene s.engine s.fill s.display (put_into s.virt offset bytes))

unfoldable pub flushed : Scene → List ℕ → List Item → Paper
flushed s l [] = paper s l []
flushed s l (posted span es ∷ q) = paper s l (posted span es ∷ q)
flushed s l (window number offset bytes ∷ q) = flushed (written_to number offset bytes s) l q

-- "a list leaves in the step that ends it": with neither entries nor pixels left.
unfoldable pub leaving : Scene → List ℕ → Span → List Entry → List Item → Paper
leaving s l span [] q = cond s.engine.under_way (paper s l (posted span [] ∷ q)) (flushed s l q)
leaving s l span (e ∷ es) q = paper s l (posted span (e ∷ es) ∷ q)

-- "Each is a step as above on these buffers, its entries coming from the copy in front".
unfoldable pub fetching : Extent → Paper → Span → List Entry → List Item → Paper
fetching extent p span [] q = p
fetching extent p span (e ∷ es) q = leaving (taken_of extent p.drawing e) p.list span es q

unfoldable pub step_by : Extent → Paper → List Item → Paper
step_by extent p [] = p
step_by extent p (window number offset bytes ∷ q) = p
step_by extent p (posted span es ∷ q) =
    cond p.drawing.engine.under_way (leaving (visit_of extent p.drawing) p.list span es q) (fetching extent p span es q)

abbrev pub step_on : Extent → Paper → Paper
step_on extent p = step_by extent p p.queue

unfoldable pub steps_on : ℕ → Extent → Paper → Paper
steps_on zero extent p = p
steps_on (suc n) extent p = steps_on n extent (step_on extent p)

-- "A done store puts its bytes into list memory from its first entry on".
abbrev pub stored_on : ℕ → List ℕ → Paper → Paper
stored_on first bytes p = paper p.drawing (put_into p.list (5 * first) bytes) p.queue

-- "It is fed each call's arguments .. whether the answer was 0, and the steps a run reported." "an
-- accepted piece counts as a store of the entries it completes, whatever feed record it is given" (02, R-5). "an accepted import
-- is a window write" (02, R-9), of all pixels; an export leaves the paper board as it was.
unfoldable pub fed : Extent → Call → Bool → ℕ → Paper → Paper
fed extent (post start count) true steps p =
    paper p.drawing p.list (p.queue ++ (posted (span_of start count) (entries_from p.list start count) ∷ []))
fed extent (post start count) false steps p = p
fed extent (store first bytes) true steps p = stored_on first bytes p
fed extent (store first bytes) false steps p = p
fed extent (write number offset bytes) true steps p =
    flushed p.drawing p.list (p.queue ++ (window number offset bytes ∷ []))
fed extent (write number offset bytes) false steps p = p
fed extent (run budget) answered steps p = steps_on steps extent p
fed extent (feed f piece) true steps p = stored_on f.next (completed (joined f piece)) p
fed extent (feed f piece) false steps p = p
fed extent (import number picture) true steps p =
    flushed p.drawing p.list (p.queue ++ (window number 0 (pixels_of extent.width extent.height picture) ∷ []))
fed extent (import number picture) false steps p = p
fed extent (export number output) answered steps p = p

-- The entries of the queue's lists, in the order in which they run, and the steps that would empty the queue.
unfoldable pub queued : List Item → List Entry
queued [] = []
queued (posted span es ∷ q) = es ++ queued q
queued (window number offset bytes ∷ q) = queued q

abbrev pub steps_to_empty : Extent → Paper → ℕ
steps_to_empty extent p = steps_of extent p.drawing (queued p.queue)
