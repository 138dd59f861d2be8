-- By the entry's first byte: a register that triggers nothing (`put-done`), the trigger (`trigger-done`), or no register (`none-done`).
use mathlib.Core.Path.{refl}
use borrow.Author.Rules.{rules}
use Rattle.leaps.proofs.Entries.{put-done, trigger-done, none-done}
use Rattle.leaps.proofs.list_runs.take_entry.Goals as goal
use Rattle.leaps.proofs.list_runs.take_entry.Goals.{in-0, in-8, in-16, in-24, in-32, in-40, in-48, in-56, in-64, in-72, in-80, in-88, in_default}

pub returns-in-96 : goal.returns-in-96
returns-in-96 c =
    let s = c.args in
    trigger-done s.list.now s.place c.requires.0 s.extent s.budget s.e.now s.display.now s.virt.now c.in-96.is _ _ _ _
    (rw c.word_at.ensures at c.trigger.ensures)

pub returns : goal.returns
returns c =
    let s = c.args in
    let put = put-done s.list.now s.place c.requires.0 s.extent s.budget s.e.now s.display.now s.virt.now in
    rw c.then_some.ensures
    (elim c.match-list-place.branch [
      | in-0 w ↦ rw (w.e-is, w.legal-is) (put 0 w.in-0.is refl _ w.put_at-legal.ensures.legal _ w.put_at-legal.ensures.put)
      | in-8 w ↦ rw (w.e-is, w.legal-is) (put 1 w.in-8.is refl _ w.put_at-legal-in-8.ensures.legal _ w.put_at-legal-in-8.ensures.put)
      | in-16 w ↦ rw (w.e-is, w.legal-is) (put 2 w.in-16.is refl _ w.put_at-legal-in-16.ensures.legal _ w.put_at-legal-in-16.ensures.put)
      | in-24 w ↦ rw (w.e-is, w.legal-is) (put 3 w.in-24.is refl _ w.put_at-legal-in-24.ensures.legal _ w.put_at-legal-in-24.ensures.put)
      | in-32 w ↦ rw (w.e-is, w.legal-is) (put 4 w.in-32.is refl _ w.put_at-legal-in-32.ensures.legal _ w.put_at-legal-in-32.ensures.put)
      | in-40 w ↦ rw (w.e-is, w.legal-is) (put 5 w.in-40.is refl _ w.put_at-legal-in-40.ensures.legal _ w.put_at-legal-in-40.ensures.put)
      | in-48 w ↦ rw (w.e-is, w.legal-is) (put 6 w.in-48.is refl _ w.put_at-legal-in-48.ensures.legal _ w.put_at-legal-in-48.ensures.put)
      | in-56 w ↦ rw (w.e-is, w.legal-is) (put 7 w.in-56.is refl _ w.put_at-legal-in-56.ensures.legal _ w.put_at-legal-in-56.ensures.put)
      | in-64 w ↦ rw (w.e-is, w.legal-is) (put 8 w.in-64.is refl _ w.put_at-legal-in-64.ensures.legal _ w.put_at-legal-in-64.ensures.put)
      | in-72 w ↦ rw (w.e-is, w.legal-is) (put 9 w.in-72.is refl _ w.put_at-legal-in-72.ensures.legal _ w.put_at-legal-in-72.ensures.put)
      | in-80 w ↦ rw (w.e-is, w.legal-is) (put 10 w.in-80.is refl _ w.put_at-legal-in-80.ensures.legal _ w.put_at-legal-in-80.ensures.put)
      | in-88 w ↦ rw (w.e-is, w.legal-is) (put 11 w.in-88.is refl _ w.put_at-legal-in-88.ensures.legal _ w.put_at-legal-in-88.ensures.put)
      | in_default w ↦
          rw (w.e-is, w.legal-is)
          (none-done s.list.now s.place (search rules) (search rules) (search rules) (search rules) (search rules) (search rules) (search rules)
          (search rules) (search rules) (search rules) (search rules) (search rules) (search rules) s.extent s.budget s.e.now s.display.now s.virt.now)
    ])
