-- What clauses see of a place in bytes.
use Rattle.mls_ckpt.specs.declared.take.Take.{Take}
use Rattle.mls_ckpt.specs.Reading.{Cursor}

abbrev pub cursor_of : Take → Cursor
cursor_of t = record { at = t.at; left = t.left.now }
