-- Same bar from either end (02, R-8): SOLID lines without NLST, of every scene, in lists, and by the calls. Proved in
-- proofs/SolidLines.antt.
use Rattle.std.specs.Prelude.{◌≡◌, true, false, List, [], ◌∷◌, ◌++◌, ℕ, ◌<◌, get_or}
use Rattle.geometry.specs.declared.Extent.{Extent}
use Rattle.entries.specs.Fields.{is_line}
use Rattle.entries.specs.declared.fields.Opcode.TheVariants.{Line}
use Rattle.entries.specs.declared.decoding.Entry.{Entry}
use Rattle.entries.specs.declared.fields.Command.{Command}
use Rattle.registers.specs.declared.file.Registers.{Registers}
use Rattle.lists.specs.Cursors.{entries_from}
use Rattle.commands.specs.Visits.{command_in, line_start, shows}
use Rattle.commands.specs.Steps.{Scene}
use Rattle.commands.specs.Wholes.{finished_by, done_of}
use Rattle.commands.specs.declared.Engine.{Engine}
use Rattle.board.specs.Steps.{Machine, machine, scene_of}
use Rattle.board.specs.Runs.{Outcome, run_call}
use Rattle.board.specs.Calls.{Reply, post_call}

-- The same two buffers.
pub record SamePicture (s t : Scene) : Type 0 where
  pub display-same : s.display ≡ t.display
  pub virt-same : s.virt ≡ t.virt

-- SOLID, and without NLST.
pub record Solid (c : Command) : Type 0 where
  pub solid : c.solid ≡ true
  pub no-nlst : c.nlst ≡ false

-- "a SOLID line without NLST, from A to B", triggered and none of its pixels visited. "LINE runs from XY0 to XY1; PLINE from
-- the last point."
pub record SolidLine (a b : ℕ) (e : Engine) : Type 0 where
  pub under-way : e.under_way ≡ true
  pub unvisited : e.visited ≡ 0
  pub line : is_line (command_in e) ≡ true
  pub style : Solid (command_in e)
  pub start : line_start e ≡ a
  pub end : e.registers.xy1 ≡ b

-- Of the other registers it reads these.
pub record Context : Type 0 where
  pub cmd : ℕ
  pub fore : ℕ
  pub mask : ℕ
  pub clptl : ℕ
  pub clpbr : ℕ

abbrev pub context_of : Registers → Context
context_of g = record { cmd = g.cmd; fore = g.fore; mask = g.mask; clptl = g.clptl; clpbr = g.clpbr }

-- All visits of the command under way.
abbrev pub drawn_of : Extent → Scene → Scene
drawn_of extent s = finished_by shows extent s

-- "from A to B or from B to A with the other registers equal, leaves the same picture under each of the sixteen codes, any mask
-- and any clip"
abbrev pub SameFromEitherEnd : Type 0
SameFromEitherEnd =
    (extent : Extent) (a b : ℕ) (s t : Scene) → SolidLine a b s.engine → SolidLine b a t.engine
    → context_of s.engine.registers ≡ context_of t.engine.registers → SamePicture s t
    → SamePicture (drawn_of extent s) (drawn_of extent t)

-- Code 6, and buffers that hold bytes.
abbrev pub exclusive_or : ℕ
exclusive_or = 6

pub record Bytes (s : Scene) : Type 0 where
  pub display-bytes : (k : ℕ) → get_or s.display k 0 < 256
  pub virt-bytes : (k : ℕ) → get_or s.virt k 0 < 256

-- "the same such line drawn twice with code 6 restores the picture": s is the scene at its first trigger, t at its second.
abbrev pub TwiceRestores : Type 0
TwiceRestores =
    (extent : Extent) (a b : ℕ) (s t : Scene) → SolidLine a b s.engine → SolidLine a b t.engine
    → context_of s.engine.registers ≡ context_of t.engine.registers → (command_in s.engine).code ≡ exclusive_or → Bytes s
    → SamePicture (drawn_of extent s) t → SamePicture (drawn_of extent t) s

-- The same of entries that end with such a LINE: XY0, and XY1, which triggers it, after entries that leave it in CMD.
abbrev pub writing : ℕ → ℕ → Entry
writing register word = record { register = register; spare = 0; word = word }

abbrev pub line_from : ℕ → ℕ → List Entry
line_from a b = writing 9 a ∷ writing 12 b ∷ []

pub record LineNext (e : Engine) : Type 0 where
  pub opcode : (command_in e).opcode ≡ Line
  pub style : Solid (command_in e)

abbrev pub SameInLists : Type 0
SameInLists =
    (extent : Extent) (s : Scene) (es : List Entry) (a b : ℕ) → s.engine.under_way ≡ false
    → LineNext (done_of extent s es).engine
    → SamePicture (done_of extent s (es ++ line_from a b)) (done_of extent s (es ++ line_from b a))

abbrev pub TwiceInLists : Type 0
TwiceInLists =
    (extent : Extent) (s : Scene) (es : List Entry) (a b : ℕ) → s.engine.under_way ≡ false
    → LineNext (done_of extent s es).engine → (command_in (done_of extent s es).engine).code ≡ exclusive_or → Bytes s
    → SamePicture (done_of extent s (es ++ line_from a b ++ line_from a b)) (done_of extent s es)

-- The same of the calls. A list to post, and the budget of the run after it:
pub record Job : Type 0 where
  pub memory : List ℕ
  pub start : ℕ
  pub count : ℕ
  pub budget : ℕ

abbrev pub entries_of : Job → List Entry
entries_of j = entries_from j.memory j.start j.count

abbrev pub posted_on : Machine → Job → Reply
posted_on m j = post_call j.memory j.start j.count m.board

abbrev pub ran_on : Machine → Job → Outcome
ran_on m j = run_call j.budget j.memory (machine (posted_on m j).board m.display m.virt)

-- The list is accepted on an idle board, and the run empties the board.
pub record Completed (m : Machine) (j : Job) : Type 0 where
  pub idle : m.board.active.taken ≡ false
  pub accepted : (posted_on m j).report.number ≡ 0
  pub done : (ran_on m j).report.number ≡ 0
  pub emptied : (ran_on m j).after.board.active.taken ≡ false

abbrev pub SameWhenPosted : Type 0
SameWhenPosted =
    (m : Machine) (i j : Job) (es : List Entry) (a b : ℕ) → Completed m i → Completed m j → entries_of i ≡ es ++ line_from a b
    → entries_of j ≡ es ++ line_from b a → LineNext (done_of m.board.sizes.extent (scene_of m) es).engine
    → SamePicture (scene_of (ran_on m i).after) (scene_of (ran_on m j).after)

abbrev pub TwiceWhenPosted : Type 0
TwiceWhenPosted =
    (m : Machine) (j : Job) (es : List Entry) (a b : ℕ) → Completed m j → entries_of j ≡ es ++ line_from a b ++ line_from a b →
    let t = done_of m.board.sizes.extent (scene_of m) es in
    LineNext t.engine → (command_in t.engine).code ≡ exclusive_or → Bytes (scene_of m)
    → SamePicture (scene_of (ran_on m j).after) t
