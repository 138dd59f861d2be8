-- Demand 3: from a fresh board on, board and paper board are equal after each call, since every call keeps them so.
-- Assumes nothing.
use mathlib.Core.Path.{◌≡◌, refl, ap, ap₂, sym, subst, ◌∙◌}
use mathlib.Core.Bool.{true}
use mathlib.Core.List.{List, [], ◌∷◌}
use lib.Dec.{eqb}
use Rattle.entries.specs.Fields.{length_of}
use Rattle.entries.specs.Legality.{data_legal, cmd_legal, pctrl_legal}
use Rattle.registers.specs.Registers.{registers_legal}
use Rattle.registers.specs.Patterns.{in_range}
use Rattle.lemmas.specs.Turns.{in_turn}
use Rattle.tiles.specs.Tiles.{no_fill}
use Rattle.commands.specs.Steps.{scene, fresh_engine}
use Rattle.slots.specs.Slots.{sizes_ok, sizes}
use Rattle.board.specs.Calls.{fresh_board}
use Rattle.geometry.specs.declared.Extent.{Extent}
use Rattle.lists.specs.Cursors.{entries_from}
use Rattle.slots.specs.declared.record.Sizes.{Sizes}
use Rattle.board.proofs.Forms.{Good, good_of, well-of}
use Rattle.statements.specs.Paper.{Call, Paper, paper, fed}
use Rattle.statements.specs.World.{World, world, Called, called, answers_to}
use Rattle.statements.specs.Demand.{queue_spans, SlotsHold, Equal, Reports, Throughout, Demand3}
use Rattle.statements.proofs.Abstract.{paper_of, Valid, slots-hold}
use Rattle.statements.proofs.Kept.{Kept}
use Rattle.statements.proofs.Commutes.{keeps, reports}

equals : (w : World) (c : Call) (o : Called) (p : Paper) → Kept w c o → paper_of o.after ≡ p → Equal o p
equals w c o p k e =
    record {
      display-same = ap (λ p. p.drawing.display) e;
      virt-same = ap (λ p. p.drawing.virt) e;
      list_same = ap (λ p. p.list) e;
      registers-same = ap (λ p. p.drawing.engine.registers) e;
      pattern-same = ap (λ p. p.drawing.engine.pattern) e;
      slots-hold =
          subst (λ p. SlotsHold o.after.board (queue_spans p.queue)) e
          (slots-hold o.after.list o.after.board (good_of o.after.board k.valid.well));
      no_nine = k.no_nine;
    }

throughout : (extent : Extent) (calls : List Call) (w : World) (p : Paper) → Valid w → w.board.sizes.extent ≡ extent → paper_of w ≡ p
    → Throughout extent calls w (answers_to calls w) p
unfolding Throughout answers_to
throughout extent [] w p v a e = tt
throughout extent (c ∷ calls) w p v a e =
    let k = keeps c w v in
    let o = called c w in
    let next : Extent → Paper → Paper = λ x p. fed x c (eqb o.report.number 0) o.report.steps p in
    let same : paper_of o.after ≡ next extent p = sym k.paper-same ∙ ap₂ next a e in (
      record { well-formed = v.well; one-by-feed = k.one-by-feed },
      equals w c o (next extent p) k same,
      subst (λ x. Reports x c o p) a (subst (Reports w.board.sizes.extent c o) e (reports c w v)),
      throughout extent calls o.after (next extent p) k.valid (ap (λ z. z.extent) k.sizes-same ∙ a) same,
    )

fresh-good : (z : Sizes) → sizes_ok z ≡ true → Good (fresh_board z)
unfolding registers_legal data_legal cmd_legal pctrl_legal length_of in_range in_turn
fresh-good z h = record { sizes = h; engine = refl; fill = refl; active = refl; pending = refl; order = refl }

pub demand3 : Demand3
unfolding entries_from
demand3 width height entries ok list display virt list-long display-long virt-long calls =
    let z = sizes width height entries in
    throughout z.extent calls (world (fresh_board z) list display virt) (paper (scene fresh_engine no_fill display virt) list [])
    (record {
      well = well-of (fresh_board z) (fresh-good z ok);
      list-long = list-long;
      display-long = display-long;
      virt-long = virt-long;
      legal = tt;
    })
    refl refl
