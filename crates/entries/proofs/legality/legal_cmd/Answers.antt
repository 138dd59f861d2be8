-- By the opcode: NOOP (`noop-word`), BITBLT (`blit-word`), LINE and PLINE (`line-word`), or none (`unknown-word`).
use Rattle.entries.proofs.Registers.{noop-word, blit-word, line-word, unknown-word}
use Rattle.entries.proofs.legality.legal_cmd.Goals as goal

pub returns-in-Noop : goal.returns-in-Noop
returns-in-Noop c = noop-word _ _ c.command_of-c.ensures c.in-Noop.is

pub returns-in-Blit : goal.returns-in-Blit
returns-in-Blit c = rw c.legal_blit.ensures (blit-word _ _ c.command_of-c.ensures c.in-Blit.is)

pub returns-in-Line : goal.returns-in-Line
returns-in-Line c = rw c.legal_line.ensures (line-word _ _ c.command_of-c.ensures c.in-Line.is)

pub returns-in-Unknown : goal.returns-in-Unknown
returns-in-Unknown c = unknown-word _ _ c.command_of-c.ensures _ c.in-Unknown.is
