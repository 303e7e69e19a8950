use Rattle.rows.proofs.RowSound.{row_sound}
use Rattle.rows.proofs.RowCopied.{row_copied}
use Rattle.rows.proofs.reading.row_bounds.Goals as goal

-- the theorems hold whatever is answered
pub returns-in_err-row-clause-sound : goal.returns-in_err-row-clause-sound
returns-in_err-row-clause-sound g c = row_sound g.K.BoundKind.means g.met.K.BoundKind.lawful

pub returns-in_err-row-clause-copied : goal.returns-in_err-row-clause-copied
returns-in_err-row-clause-copied g c = row_copied

pub returns-clause-sound : goal.returns-clause-sound
returns-clause-sound g c = row_sound g.K.BoundKind.means g.met.K.BoundKind.lawful

pub returns-clause-copied : goal.returns-clause-copied
returns-clause-copied g c = row_copied
