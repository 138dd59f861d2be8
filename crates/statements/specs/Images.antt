-- Demand 3 for a caller in C: the exported functions, each handed the image of the record and the memories as the last call left
-- them. Proved in proofs/Images.antt.
use Rattle.std.specs.Prelude.{◌≡◌, cond, List, [], ◌∷◌, ℕ, ◌*◌, ◌<◌, eqb, length, get_or}
use Rattle.answers.specs.Reports.{Report, report}
use Rattle.tiles.specs.Tiles.{no_fill}
use Rattle.commands.specs.Steps.{scene, fresh_engine}
use Rattle.slots.specs.Slots.{sizes}
use Rattle.pramolyt.specs.Image.{board_of}
use Rattle.pramolyt.specs.Exports.{make_image, post_image, store_image, write_image, run_image, feed_image, export_image, import_image}
use Rattle.statements.specs.Paper.{Call, post, store, write, run, feed, import, export, paper}
use Rattle.statements.specs.World.{World, world, Called}
use Rattle.statements.specs.Demand.{Throughout}

-- What the caller keeps: the words of the record, and the three memories.
pub record Caller : Type 0 where
  pub words : List ℕ
  pub list : List ℕ
  pub display : List ℕ
  pub virt : List ℕ

abbrev pub caller : List ℕ → List ℕ → List ℕ → List ℕ → Caller
caller words list display virt = record { words = words; list = list; display = display; virt = virt }

pub record Returned : Type 0 where
  pub report : Report
  pub after : Caller

-- The exported functions, as their contracts say.
unfoldable pub returned : Call → Caller → Returned
returned (post start count) k =
    let r = post_image k.words k.list start count in
    record { report = report r.number r.place 0; after = caller r.words k.list k.display k.virt }
returned (store first bytes) k =
    let r = store_image k.words k.list first bytes in
    record { report = report r.number 0 0; after = caller r.words r.memory k.display k.virt }
returned (write number offset bytes) k =
    let d = write_image k.words number offset bytes k.display in
    let v = write_image k.words number offset bytes k.virt in
    cond (eqb number 0) (record { report = report d.number 0 0; after = caller d.words k.list d.memory k.virt })
    (record { report = report v.number 0 0; after = caller v.words k.list k.display v.memory })
returned (run budget) k =
    let r = run_image k.words budget k.list k.display k.virt in
    record { report = report r.number 0 r.steps; after = caller r.words k.list r.display r.virt }
returned (feed f piece) k =
    let r = feed_image k.words f k.list piece in
    record { report = report r.number 0 0; after = caller r.words r.memory k.display k.virt }
returned (import number picture) k =
    let d = import_image k.words number picture k.display in
    let v = import_image k.words number picture k.virt in
    cond (eqb number 0) (record { report = report d.number 0 0; after = caller d.words k.list d.memory k.virt })
    (record { report = report v.number 0 0; after = caller v.words k.list k.display v.memory })
returned (export number output) k =
    let r = export_image k.words number (cond (eqb number 0) k.display k.virt) output in
    record { report = report r.number 0 0; after = caller r.words k.list k.display k.virt }

-- The same with the record that the words are.
abbrev pub world_in : Caller → World
world_in k = world (board_of k.words) k.list k.display k.virt

unfoldable pub returns_to : List Call → Caller → List Called
returns_to [] k = []
returns_to (c ∷ cs) k =
    let r = returned c k in
    record { report = r.report; after = world_in r.after } ∷ returns_to cs r.after

-- What the types in C say of pixels, which are bytes: those of the buffers, and those that calls put into them.
abbrev pub AllBytes : List ℕ → Type 0
AllBytes l = (k : ℕ) → get_or l k 0 < 256

abbrev pub BytesIn : Call → Type 0
BytesIn (post start count) = Unit {0}
BytesIn (store first bytes) = Unit {0}
BytesIn (write number offset bytes) = AllBytes bytes
BytesIn (run budget) = Unit {0}
BytesIn (feed f piece) = Unit {0}
BytesIn (import number picture) = AllBytes picture
BytesIn (export number output) = Unit {0}

unfoldable pub BytesThroughout : List Call → Type 0
BytesThroughout [] = Unit {0}
BytesThroughout (c ∷ cs) = BytesIn c × BytesThroughout cs

-- From `pramolyt_make` answered 0 on, any memories of the right sizes and any calls: after each call what `Demand3` says, of
-- the record that the image's words are.
abbrev pub Demand3InC : Type 0
Demand3InC =
    (width height entries : ℕ) → (make_image width height entries).number ≡ 0 → (list display virt : List ℕ)
    → length list ≡ 5 * entries → length display ≡ width * height → length virt ≡ width * height → AllBytes display → AllBytes virt
    → (calls : List Call) → BytesThroughout calls
    → let k = caller (make_image width height entries).words list display virt in
    Throughout (sizes width height entries).extent calls (world_in k) (returns_to calls k) (paper (scene fresh_engine no_fill display virt) list [])
