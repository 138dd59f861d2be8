-- A run of an image in parts: a fill that it holds, the lists with no tile, and a fill that the budget cuts.
-- Assumes nothing.
use mathlib.Core.Path.{◌≡◌, refl, ap, sym, subst, ◌∙◌}
use mathlib.Core.Bool.{false}
use mathlib.Core.List.{List}
use Prim.Native.Nat.{ℕ, ◌+◌, ◌-◌, ◌≤◌, ◌<◌}
use native.Mathlib.Omega.{arith}
use lib.Dec.{eqb}
use lib.ListN.{get_or}
use Rattle.lemmas.proofs.Booleans.{or-none-left, or-none-right, second-of}
use Rattle.std.specs.Prelude.{Result}
use Rattle.std.specs.declared.ops.ControlFlow.{ControlFlow}
use Rattle.std.specs.declared.ops.ControlFlow.TheVariants.{Continue, Break}
use Rattle.answers.specs.Reports.{report_of, status_in, goes_on}
use Rattle.answers.specs.declared.Refusal.{Refusal}
use Rattle.tiles.specs.Tiles.{no_fill, filled_with}
use Rattle.commands.specs.Hatching.{hatches}
use Rattle.board.specs.Steps.{Machine, machine}
use Rattle.board.specs.Runs.{added, run_call}
use Rattle.board.specs.Bare.{tiled_board, tiled, bare_of, steps_in, answered, BareRan, HatchRan}
use Rattle.board.specs.declared.bare.Bare.{Bare}
use Rattle.board.specs.declared.bare.BareAnswer.{BareAnswer}
use Rattle.board.specs.declared.record.Board.{Board}
use Rattle.board.specs.declared.runs.HatchAnswer.{HatchAnswer}
use Rattle.board.proofs.Tiled as board-tiled
use Rattle.board.proofs.Parts.{none_done, fill-ends, hatch-over, last-is, last-run}
use Rattle.pramolyt.specs.FillImage.{fill_at, tile_in, Kept}
use Rattle.pramolyt.specs.Image.{words_of, board_of, bare_in, untiled, engine_in}
use Rattle.pramolyt.specs.Exports.{ran, ran_by}
use Rattle.pramolyt.specs.Parts.{holds_in, HatchedImage, Free, HeldDone}
use Rattle.pramolyt.proofs.RoundTrips.{bare-decoded, decodes-encoded}
use Rattle.pramolyt.proofs.TakenTiles.{taken-kept}

abbrev Part : Type 0
Part = ControlFlow (Result ℕ Refusal) ℕ

-- ---- the steps of a fill that is held
pub hatched-is : (budget : ℕ) (l w d v : List ℕ) (b : Board) → b ≡ board_of w → (a : HatchAnswer) (d' v' : List ℕ)
    → HatchRan budget l (machine b d v) a d' v' → (w' : List ℕ) → w' ≡ words_of a.board
    → HatchedImage budget l w d v a.part w' d' v'
hatched-is budget l w d v b decoded a d' v' hatched w' encoded =
    record {
      answer = a;
      ran = subst (λ b. HatchRan budget l (machine b d v) a d' v') decoded hatched;
      words = encoded;
      says = refl;
    }

module _ (budget : ℕ) (l w d₀ v₀ : List ℕ) where
  abbrev m : Machine
  m = machine (board_of w) d₀ v₀

  -- with them the run has ended
  hatched-whole : (part : Part) (w' d v : List ℕ) → HatchedImage budget l w d₀ v₀ part w' d v → (status : Result ℕ Refusal)
      → part ≡ Break status → (steps : ℕ) → steps ≡ (report_of status).steps → (number : ℕ) → number ≡ (report_of status).number
      → ran number w' steps d v ≡ ran_by (run_call budget l m)
  hatched-whole part w' d v h status is steps stepped number numbered =
      (λ i. ran (numbered i) (h.words i) (stepped i) d v)
      ∙ ap ran_by (fill-ends budget l m h.answer d v h.ran status (sym h.says ∙ is))

  -- or it goes on with no tile held, after so many steps
  free-later : (part : Part) (w' d v : List ℕ) → HatchedImage budget l w d₀ v₀ part w' d v → (done : ℕ) → part ≡ Continue done
      → Free budget l w d₀ v₀ done w' d v
  free-later part w' d v h done is =
      let a = h.answer in
      let on : a.part ≡ Continue done = sym h.says ∙ is in
      let bare : bare_in w' ≡ bare_of a.board = ap bare_in h.words ∙ bare-decoded a.board in
      let left = hatch-over budget l m a d v h.ran done on (bare_in w') bare in
      record { few = left.few; run = left.run; none = ap (λ (b : Bare). hatches b.engine) bare ∙ (h.ran.free (ap goes_on on)).0 }

  -- where a fill is held
  pub held-fill : (part : Part) (w' d v : List ℕ) → HatchedImage budget l w d₀ v₀ part w' d v → HeldDone budget l w d₀ v₀ part w' d v
  held-fill (Break status) w' d v h = hatched-whole (Break status) w' d v h status refl _ refl _ refl
  held-fill (Continue done) w' d v h = free-later (Continue done) w' d v h done refl

  -- and where none is
  pub held-none : holds_in w ≡ false → HeldDone budget l w d₀ v₀ (Continue 0) w d₀ v₀
  held-none h =
      let flag = eqb (get_or w fill_at 0) 1 in
      let still = or-none-right flag (hatches (engine_in w)) h in
      let blank = sym (second-of flag (filled_with (tile_in w)) no_fill (or-none-left flag (hatches (engine_in w)) h)) in
      let here : tiled (bare_in w) d₀ v₀ ≡ m = ap (λ b. machine b d₀ v₀) (sym (board-tiled.untiled (board_of w) d₀ v₀ still blank)) in
      record { few = omega arith; run = ap (λ n. added 0 (run_call (budget - 0) l n)) here ∙ none_done budget l m; none = still }

  -- the two ways of a run
  pub held-ends : (part : Part) (w' d v : List ℕ) → HeldDone budget l w d₀ v₀ part w' d v → (status : Result ℕ Refusal) → part ≡ Break status
      → (steps : ℕ) → steps ≡ (report_of status).steps → (number : ℕ) → number ≡ (report_of status).number
      → ran number w' steps d v ≡ ran_by (run_call budget l m)
  held-ends part w' d v h status is steps stepped number numbered =
      (λ i. ran (numbered i) w' (stepped i) d v) ∙ subst (λ p. HeldDone budget l w d₀ v₀ p w' d v) is h

  pub held-goes : (part : Part) (w' d v : List ℕ) → HeldDone budget l w d₀ v₀ part w' d v → (done : ℕ) → part ≡ Continue done
      → Free budget l w d₀ v₀ done w' d v
  held-goes part w' d v h done is = subst (λ p. HeldDone budget l w d₀ v₀ p w' d v) is h

-- ---- the lists, with no tile held, after so many steps
module _ (budget : ℕ) (l : List ℕ) (done : ℕ) (w d v : List ℕ) (few : done ≤ budget) (none : hatches (engine_in w) ≡ false) (b : Bare)
    (is_b : b ≡ bare_in w) (r : BareAnswer) (d' v' : List ℕ)
    (lists : BareRan (budget - done) l (run_call (budget - done) l (tiled b d v)) b r d' v') where
  rest : added done (run_call (budget - done) l (tiled b d v)) ≡ added done (run_call (budget - done) l (tiled (bare_in w) d v))
  rest = ap (λ b. added done (run_call (budget - done) l (tiled b d v))) is_b

  -- they end the run
  module _ (status : Result ℕ Refusal) (is : r.part ≡ Break status) (k : ℕ) (stepped : k ≡ (report_of status).steps) where
    pub lists-whole : (words : List ℕ) → words ≡ words_of (untiled r.bare) → (number : ℕ) → number ≡ (report_of status).number
        → ran number words (done + k) d' v' ≡ ran_by (added done (run_call (budget - done) l (tiled (bare_in w) d v)))
    lists-whole words encoded number numbered =
        let c : goes_on r.part ≡ false = ap goes_on is in
        let free = lists.free c (ap (λ (b : Bare). hatches b.engine) is_b ∙ none) in
        let same = encoded ∙ ap words_of (board-tiled.untiled (untiled r.bare) d' v' free refl) in
        let steps : done + k ≡ steps_in status + done = omega arith in
        (λ i. ran (numbered i) (same i) (steps i) d' v')
        ∙ ap (λ part. ran_by (added done (answered (status_in part) (tiled r.bare d' v')))) (sym is)
        ∙ ap (λ o. ran_by (added done o)) (lists.part.whole c)
        ∙ ap ran_by rest

  -- or leave a fill that the budget cuts
  module _ (k : ℕ) (is : r.part ≡ Continue k) where
    module _ (bytes : (j : ℕ) → get_or d' j 0 < 256) (more_bytes : (j : ℕ) → get_or v' j 0 < 256) (x : Board)
        (is_x : x ≡ tiled_board r.bare d' v') (words : List ℕ) (encoded : words ≡ words_of x) (part : Part) (w'' d'' v'' : List ℕ)
        (last : HatchedImage (budget - (done + k)) l words d' v' part w'' d'' v'') (j : ℕ) (stepped : j ≡ (report_of (status_in part)).steps)
      where
        decoded : board_of words ≡ x
        decoded =
            ap board_of encoded
            ∙ decodes-encoded x
            (subst (λ (b : Board). Kept b.fill) (sym is_x) (taken-kept r.bare.sizes.extent r.bare.engine d' v' bytes more_bytes))

        hatched : HatchRan (budget - done - k) l (machine x d' v') last.answer d'' v''
        hatched =
            let left : budget - (done + k) ≡ budget - done - k = omega arith in
            subst (λ n. HatchRan n l (machine x d' v') last.answer d'' v'') left
            (subst (λ b. HatchRan (budget - (done + k)) l (machine b d' v') last.answer d'' v'') decoded last.ran)

        step-of : j ≡ steps_in (status_in last.answer.part)
        step-of = stepped ∙ ap (λ part. steps_in (status_in part)) last.says

        pub last-whole : (number : ℕ) → number ≡ (report_of (status_in part)).number
            → ran number w'' (done + k + j) d'' v'' ≡ ran_by (added done (run_call (budget - done) l (tiled (bare_in w) d v)))
        last-whole number numbered =
            let o = run_call (budget - done) l (tiled b d v) in
            let a = last.answer in
            let steps : done + k + j ≡ steps_in (status_in a.part) + k + done = omega (arith, step-of) in
            let n : number ≡ (report_of (status_in a.part)).number = numbered ∙ ap (λ part. (report_of (status_in part)).number) last.says in
            (λ i. ran (n i) (last.words i) (steps i) d'' v'')
            ∙ ap (λ o. ran_by (added done (added k o))) (last-is (budget - done) l o b r d' v' lists k is x is_x a d'' v'' hatched)
            ∙ ap (λ o. ran_by (added done o)) (last-run (budget - done) l o b r d' v' lists k is x is_x a d'' v'' hatched) ∙ ap ran_by rest
