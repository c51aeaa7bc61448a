-- What an answer says of what is read from bytes.
use Rattle.std.specs.Prelude.{◌≡◌, List, ◌++◌, Result, Ok, Err}
use Rattle.mls_ckpt.specs.declared.faults.RecoverFault.{RecoverFault}
use Rattle.mls_ckpt.specs.declared.take.Take.{Take}
use Rattle.mls_ckpt.specs.Places.{cursor_of}
use Rattle.mls_ckpt.specs.Reading.{Cursor, Read, Refuses}

-- The answer is what is read, seen so, and the place behind it; or it is the refusal.
abbrev pub Answers : {A B : Type 0} → (A → B) → Cursor → Result A RecoverFault → Read (B × Cursor) → Type 0
Answers see new (Ok a) read = read ≡ Ok (see a, new)
Answers see new (Err fault) read = Refuses fault read

-- the same, where what is read is known
abbrev pub AnswersWith : {A B : Type 0} → B → Cursor → Result A RecoverFault → Read (B × Cursor) → Type 0
AnswersWith value new (Ok a) read = read ≡ Ok (value, new)
AnswersWith value new (Err fault) read = Refuses fault read

-- the answer of a call between two places is what a reader reads at the first, seen so
abbrev pub Reads : {A B : Type 0} → (A → B) → (Cursor → Read (B × Cursor)) → Take → Take → Result A RecoverFault → Type 0
Reads see read old new answer = Answers see (cursor_of new) answer (read (cursor_of old))

-- the same, where what is read is known
abbrev pub ReadsThese : {A B : Type 0} → B → (Cursor → Read (B × Cursor)) → Take → Take → Result A RecoverFault → Type 0
ReadsThese value read old new answer = AnswersWith value (cursor_of new) answer (read (cursor_of old))

-- what was read before what is read from here on
abbrev pub before : {B : Type 0} → List B → Read (List B × Cursor) → Read (List B × Cursor)
before xs (Ok r) = Ok (xs ++ r.0, r.1)
before xs (Err refusal) = Err refusal
