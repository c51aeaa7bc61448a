-- The loops that take marks, a byte and a row at a time.
use Rattle.std.proofs.Common.{◌≡◌, ℕ, suc, ◌+◌, ◌-◌, ◌*◌, ◌<◌, ◌≤◌, true, false, Bool, cond, List, [], ◌∷◌, ◌++◌, length, map, take, drop, Result, Ok, Err, ap, sym, ◌∙◌, subst, arith, append_assoc, length-append, length-drop}
use Rattle.std.specs.Prelude.{count_by}
use Rattle.std.specs.Int.{w8}
use Rattle.mls_model.specs.Numbers.{below}
use Rattle.mls_ledger.proofs.Bits.{count_last}
use Rattle.std.specs.Result.{IsErrAnd}
use Rattle.mls_model.specs.Studies.{Sizes, planes}
use Rattle.mls_ckpt.specs.declared.faults.RecoverFault.{RecoverFault}
use Rattle.mls_ckpt.specs.Checkpoints.{marks_row_at, marks_at}
use Rattle.mls_ckpt.specs.Reading.{Cursor, Read, Refuses, number_at, many}
use Rattle.mls_ckpt.specs.Recovering.{behind_these, Gives, Continues}
use Rattle.mls_ckpt.specs.States.{row_len, most_of_byte, after_one, marked}
use Rattle.mls_ckpt.proofs.Loops.{loop_goes_on, loop_ends, loop_refuses, read_behind, behind_none}
use Rattle.mls_ledger.specs.MarkSets.{MarkSet, KeepsMarks}
use Rattle.mls_ledger.specs.MarkRows.{rows_in}
use Rattle.mls_ledger.proofs.Rows.{rows_more, row_long, read_keeps}

-- a fault that is handed on
pub handed_on : {A : Type 0} (answer : Result (Unit {0}) RecoverFault) (fault : RecoverFault) (before values : List A) (new : Cursor) (read : Read (List A × Cursor)) → IsErrAnd answer (λ other. other ≡ fault) → Refuses fault read → Continues before values new answer read
handed_on (Ok done) fault before values new read handed refuses = absurd handed
handed_on (Err other) fault before values new read handed refuses = subst (λ f. Refuses f read) (sym handed) refuses

pub handed_back : {A B : Type 0} (of : B → A) (answer : Result B RecoverFault) (fault : RecoverFault) (new : Cursor) (read : Read (A × Cursor)) → IsErrAnd answer (λ other. other ≡ fault) → Refuses fault read → Gives of new answer read
handed_back of (Ok done) fault new read handed refuses = absurd handed
handed_back of (Err other) fault new read handed refuses = subst (λ f. Refuses f read) (sym handed) refuses

-- a plane's bytes

abbrev pub next_byte : ℕ → ℕ → Cursor → Read (ℕ × Cursor)
next_byte groups i from = number_at w8 (most_of_byte groups i) from

pub byte_goes_on : (groups own most place size byte : ℕ) (before values : List ℕ) (old new : Cursor) (whole : Read (List ℕ × Cursor)) → own ≡ groups → most ≡ most_of_byte own place → place < size
    → values ≡ before ++ byte ∷ [] → number_at w8 most old ≡ Ok (byte, new) → behind_these before (many (next_byte groups) after_one (size - place) place old) ≡ whole
    → behind_these values (many (next_byte groups) after_one (size - (place + 1)) (place + 1) new) ≡ whole
byte_goes_on groups own most place size byte before values old new whole same is within grown read so_far =
    let here : next_byte groups place old ≡ Ok (byte, new) = ap (λ m. number_at w8 m old) (sym (is ∙ ap (λ g. most_of_byte g place) same)) ∙ read in
    ap (λ l. behind_these l (many (next_byte groups) after_one (size - (place + 1)) (place + 1) new)) grown
    ∙ loop_goes_on (next_byte groups) after_one before (size - place) (size - (place + 1)) place old new byte whole (omega arith) here so_far

pub byte_refuses : (groups own most place size : ℕ) (before first : List ℕ) (old : Cursor) (fault : RecoverFault) (whole : Read (List ℕ × Cursor)) → own ≡ groups → most ≡ most_of_byte own place → place < size
    → Refuses fault (number_at w8 most old) → behind_these before (many (next_byte groups) after_one (size - place) place old) ≡ behind_these first whole → Refuses fault whole
byte_refuses groups own most place size before first old fault whole same is within read so_far =
    loop_refuses (next_byte groups) after_one before first (size - place) (size - (place + 1)) place old fault whole (omega arith)
    (subst (λ m. Refuses fault (number_at w8 m old)) (is ∙ ap (λ g. most_of_byte g place) same) read) so_far

pub byte_ends : (groups place size : ℕ) (before : List ℕ) (old : Cursor) (whole : Read (List ℕ × Cursor)) → size ≤ place → behind_these before (many (next_byte groups) after_one (size - place) place old) ≡ whole → whole ≡ Ok (before, old)
byte_ends groups place size before old whole past so_far = loop_ends (next_byte groups) after_one before (size - place) place old whole (omega arith) so_far

-- the rows of all planes

abbrev pub next_row : Sizes → ℕ → Cursor → Read (List ℕ × Cursor)
next_row s i from = marks_row_at s from

-- what is read from a plane on, behind the bytes of those before it
abbrev pub GoesFrom : Sizes → ℕ → List ℕ → Cursor → Read (List (List ℕ) × Cursor) → Type 0
GoesFrom s plane bytes from whole =
    (behind_these (rows_in (row_len s.groups) plane bytes) (many (next_row s) after_one (planes s - plane) plane from) ≡ whole) × (length bytes ≡ plane * row_len s.groups)

pub rows_begin : (s : Sizes) (old : Cursor) (bytes : List ℕ) → bytes ≡ [] → GoesFrom s 0 bytes old (marks_at s old)
unfolding marks_at
rows_begin s old bytes none = (
  behind_none (many (next_row s) after_one (planes s - 0) 0 old) ∙ ap (λ n. many (next_row s) after_one n 0 old) (let same : planes s - 0 ≡ planes s = omega arith in same),
  ap length none ∙ (let same : 0 ≡ 0 * row_len s.groups = omega arith in same),
)

pub row_goes_on : (s : Sizes) (plane count : ℕ) (before values : List ℕ) (old new : Cursor) (whole : Read (List (List ℕ) × Cursor)) → count ≡ planes s → plane < count
    → behind_these before (marks_row_at s old) ≡ Ok (values, new) → GoesFrom s plane before old whole → GoesFrom s (plane + 1) values new whole
row_goes_on s plane count before values old new whole is within read goes =
    let long = goes.1 in
    let row = read_behind before values new (marks_row_at s old) read in
    let size : length row.0 ≡ row_len s.groups = row_long s old (row.0, new) row.1 in
    let rows : rows_in (row_len s.groups) (plane + 1) values ≡ rows_in (row_len s.groups) plane before ++ row.0 ∷ [] =
    ap (rows_in (row_len s.groups) (plane + 1)) row.2
    ∙ ap (λ n. rows_in (row_len s.groups) n (before ++ row.0)) (let same : plane + 1 ≡ suc plane = omega arith in same)
    ∙ rows_more (row_len s.groups) plane before row.0 long size in (
      ap (λ l. behind_these l (many (next_row s) after_one (planes s - (plane + 1)) (plane + 1) new)) rows
          ∙ loop_goes_on (next_row s) after_one (rows_in (row_len s.groups) plane before) (planes s - plane) (planes s - (plane + 1)) plane old new row.0 whole (omega arith) row.1 goes.0,
      ap length row.2 ∙ length-append before row.0 ∙ (let sum : length before + length row.0 ≡ (plane + 1) * row_len s.groups = omega arith in sum),
    )

pub row_refuses : (s : Sizes) (plane count : ℕ) (before : List ℕ) (old : Cursor) (fault : RecoverFault) (whole : Read (List (List ℕ) × Cursor)) → count ≡ planes s → plane < count
    → Refuses fault (marks_row_at s old) → GoesFrom s plane before old whole → Refuses fault whole
row_refuses s plane count before old fault whole is within read goes =
    loop_refuses (next_row s) after_one (rows_in (row_len s.groups) plane before) [] (planes s - plane) (planes s - (plane + 1)) plane old fault whole (omega arith) read (goes.0 ∙ sym (behind_none whole))

pub record AreAll (s : Sizes) (bytes : List ℕ) (new : Cursor) (whole : Read (List (List ℕ) × Cursor)) : Type 0 where
  pub read : whole ≡ Ok (rows_in (row_len s.groups) (planes s) bytes, new)
  pub long : length bytes ≡ planes s * row_len s.groups

pub rows_end : (s : Sizes) (plane count : ℕ) (bytes : List ℕ) (new : Cursor) (whole : Read (List (List ℕ) × Cursor)) → count ≡ planes s → plane ≤ count → count ≤ plane → GoesFrom s plane bytes new whole → AreAll s bytes new whole
rows_end s plane count bytes new whole is few all goes =
    let done : plane ≡ planes s = omega arith in
    let left : planes s - plane ≡ 0 = omega arith in
    record {
      read = loop_ends (next_row s) after_one (rows_in (row_len s.groups) plane bytes) (planes s - plane) plane new whole left goes.0
          ∙ ap (λ (n : ℕ). let read : Read (List (List ℕ) × Cursor) = Ok (rows_in (row_len s.groups) n bytes, new) in read) done;
      long = goes.1 ∙ ap (λ n. n * row_len s.groups) done;
    }

-- the counts of rows

pub counts_go_on : (groups planes plane count : ℕ) (counts more rest row others : List ℕ) (whole : List ℕ) → plane < planes → row ≡ take (row_len groups) rest → others ≡ drop (row_len groups) rest
    → count ≡ marked groups row → more ≡ counts ++ count ∷ [] → counts ++ map (marked groups) (rows_in (row_len groups) (planes - plane) rest) ≡ whole
    → more ++ map (marked groups) (rows_in (row_len groups) (planes - (plane + 1)) others) ≡ whole
counts_go_on groups planes plane count counts more rest row others whole within front back is grown so_far =
    let next : rows_in (row_len groups) (planes - plane) rest ≡ row ∷ rows_in (row_len groups) (planes - (plane + 1)) others =
    ap (λ n. rows_in (row_len groups) n rest) (let same : planes - plane ≡ suc (planes - (plane + 1)) = omega arith in same)
    ∙ ap (λ r. r ∷ rows_in (row_len groups) (planes - (plane + 1)) (drop (row_len groups) rest)) (sym front)
    ∙ ap (λ r. row ∷ rows_in (row_len groups) (planes - (plane + 1)) r) (sym back) in
    ap (λ l. l ++ map (marked groups) (rows_in (row_len groups) (planes - (plane + 1)) others)) grown
    ∙ append_assoc counts (count ∷ []) (map (marked groups) (rows_in (row_len groups) (planes - (plane + 1)) others))
    ∙ ap (λ n. counts ++ n ∷ map (marked groups) (rows_in (row_len groups) (planes - (plane + 1)) others)) is
    ∙ ap (λ r. counts ++ map (marked groups) r) (sym next)
    ∙ so_far

pub enough : (size planes plane long : ℕ) → plane < planes → long ≡ (planes - plane) * size → size ≤ long
enough size planes plane long within is =
    let more : long ≡ suc (planes - (plane + 1)) * size = is ∙ ap (λ n. n * size) (let same : planes - plane ≡ suc (planes - (plane + 1)) = omega arith in same) in
    let grown : suc (planes - (plane + 1)) * size ≡ size + (planes - (plane + 1)) * size = one_more (planes - (plane + 1)) size in
    omega arith
  where
    one_more : (n size : ℕ) → suc n * size ≡ size + n * size
    one_more n size = omega arith

pub left_long : (size planes plane : ℕ) (rest others : List ℕ) → plane < planes → length rest ≡ (planes - plane) * size → others ≡ drop size rest → length others ≡ (planes - (plane + 1)) * size
left_long size planes plane rest others within long back =
    let n = planes - (plane + 1) in
    let more : length rest ≡ size + (planes - (plane + 1)) * size = long ∙ ap (λ k. k * size) (let same : planes - plane ≡ suc (planes - (plane + 1)) = omega arith in same) ∙ one_more (planes - (plane + 1)) size in
    ap length back ∙ length-drop size rest ∙ (let left : length rest - size ≡ (planes - (plane + 1)) * size = omega arith in left)
  where
    one_more : (n size : ℕ) → suc n * size ≡ size + n * size
    one_more n size = omega arith

-- what was taken keeps what sets of marks keep
pub taken_keeps : (s : Sizes) (groups count : ℕ) (bytes slice counts : List ℕ) (old new : Cursor) → groups ≡ s.groups → count ≡ planes s → length bytes ≡ planes s * row_len s.groups
    → marks_at s old ≡ Ok (rows_in (row_len s.groups) (planes s) bytes, new) → slice ≡ bytes → counts ≡ map (marked groups) (rows_in (row_len groups) count slice) → KeepsMarks (record { groups = groups; planes = count; bytes = bytes }) counts
taken_keeps s groups count bytes slice counts old new g p long read is are =
    let m : MarkSet = record { groups = groups; planes = count; bytes = bytes } in
    let size : length bytes ≡ count * row_len groups = long ∙ ap (λ n. n * row_len s.groups) (sym p) ∙ ap (λ n. count * row_len n) (sym g) in
    let rows : rows_in (row_len s.groups) (planes s) bytes ≡ rows_in (row_len groups) count bytes = ap (λ n. rows_in (row_len n) (planes s) bytes) (sym g) ∙ ap (λ n. rows_in (row_len groups) n bytes) (sym p) in
    read_keeps s m counts old new (record { groups = g; planes = p }) size
    (read ∙ ap (λ (l : List (List ℕ)). let read : Read (List (List ℕ) × Cursor) = Ok (l, new) in read) rows)
    (are ∙ ap (λ l. map (marked groups) (rows_in (row_len groups) count l)) is)

-- one group more is counted, or not
abbrev IsCount : (ℕ → Bool) → ℕ → ℕ → Type 0
IsCount test group count = (count ≡ count_by test (below group)) × (count ≤ group)

counted : (test : ℕ → Bool) (group digit : ℕ) → cond (test group) 1 0 ≡ digit → count_by test (below (group + 1)) ≡ count_by test (below group) + digit
counted test group digit is =
    ap (λ n. count_by test (below n)) (let same : group + 1 ≡ suc group = omega arith in same) ∙ count_last test group ∙ ap (λ d. count_by test (below group) + d) is

pub counted_yes : (test : ℕ → Bool) (group count new : ℕ) → new ≡ count + 1 → test group ≡ true → IsCount test group count → IsCount test (group + 1) new
counted_yes test group count new is set so_far =
    (is ∙ ap (λ n. n + 1) so_far.0 ∙ sym (counted test group 1 (ap (λ b. cond b 1 0) set)), (let few = so_far.1 in omega arith))

pub counted_no : (test : ℕ → Bool) (group count new : ℕ) → new ≡ count → test group ≡ false → IsCount test group count → IsCount test (group + 1) new
counted_no test group count new is clear so_far =
    (is ∙ so_far.0 ∙ (let same : count_by test (below group) ≡ count_by test (below group) + 0 = omega arith in same) ∙ sym (counted test group 0 (ap (λ b. cond b 1 0) clear)), (let few = so_far.1 in omega arith))
