-- Numbers in bytes, in big-endian order, and the refusal of bytes at the first place that is wrong.
use Rattle.std.specs.Prelude.{◌≡◌, ℕ, zero, suc, ◌+◌, ◌-◌, ◌^◌, ◌<◌, Bool, ◌==◌, cond, List, [], ◌∷◌, ◌++◌, length, drop, slice_index, Result, Ok, Err, nat_lt, ⊤}
use Rattle.std.specs.Int.{Width, byte_len, to_be_bytes}
use Rattle.byteorder.specs.Endian.{big_number}
use Rattle.mls_ckpt.specs.declared.faults.CkptWhy.{CkptWhy}
use Rattle.mls_ckpt.specs.declared.faults.CkptWhy.TheVariants as why
use Rattle.mls_ckpt.specs.declared.faults.TakeFault.{TakeFault}
use Rattle.mls_ckpt.specs.declared.faults.TakeFault.TheVariants as takes
use Rattle.mls_ckpt.specs.declared.faults.RecoverFault.{RecoverFault}
use Rattle.mls_ckpt.specs.declared.faults.RecoverFault.TheVariants as recovers

-- how many bytes were read, and those that are left
pub record Cursor : Type 0 where
  pub at : ℕ
  pub left : List ℕ

-- what is wrong first, and the first byte of the number where it is
pub record Refusal : Type 0 where
  pub at : ℕ
  pub why : CkptWhy

abbrev pub Read : Type 0 → Type 0
Read A = Result A Refusal

-- one step after another; the first refusal ends them
infixl 10 ◌>>=◌
abbrev pub ◌>>=◌ : {A B : Type 0} → Read A → (A → Read B) → Read B
(Ok a) >>= next = next a
(Err refusal) >>= next = Err refusal

abbrev pub refused : {A : Type 0} → ℕ → CkptWhy → Read A
refused at why = Err (record { at = at; why = why })

-- each is a byte
abbrev pub AreBytes : List ℕ → Type 0
AreBytes bytes = (i : ℕ) → slice_index bytes i < 256

-- the bytes of a number, and the number in the first bytes
unfoldable pub spelled : Width → ℕ → List ℕ
spelled w n = to_be_bytes w n

unfoldable pub front : Width → List ℕ → ℕ
front w bytes = big_number (byte_len w) bytes

-- the place behind a number
abbrev pub behind : Width → Cursor → Cursor
behind w c = record { at = c.at + byte_len w; left = drop (byte_len w) c.left }

-- The next number, which is at most so much: Short where too few bytes are left, else Range where it is greater.
unfoldable pub number_at : Width → ℕ → Cursor → Read (ℕ × Cursor)
number_at w most c =
    cond (nat_lt (length c.left) (byte_len w)) (refused c.at why.Short)
    (cond (nat_lt most (front w c.left)) (refused c.at why.Range)
    (Ok (front w c.left, behind w c)))

-- where a test fails, this refusal
abbrev pub test : Bool → ℕ → CkptWhy → Read (Unit {0})
test holds at why = cond holds (Ok tt) (refused at why)

-- a rule that is tried here and answers at a place
abbrev pub rule : Bool → ℕ → Read (Unit {0})
rule holds at = test holds at why.Range

-- The next number, which is this one: Short where too few bytes are left, else this reason where it is another.
unfoldable pub fixed_at : CkptWhy → Width → ℕ → Cursor → Read Cursor
fixed_at why w n c = do
  read ← number_at w (256 ^ byte_len w - 1) c
  same ← test (read.0 == n) c.at why
  Ok read.1

-- no bytes are left
unfoldable pub end_at : Cursor → Read (Unit {0})
end_at c = elim c.left [ [] ↦ Ok tt | b ∷ rest ↦ refused c.at why.Trailing ]

-- so many values, each read as what stands before it says
abbrev pub many : {A X : Type 0} → (X → Cursor → Read (A × Cursor)) → (X → A → X) → ℕ → X → Cursor → Read (List A × Cursor)
many step next zero x c = Ok ([], c)
many step next (suc n) x c = do
  first ← step x c
  rest ← many step next n (next x first.0) first.1
  Ok (first.0 ∷ rest.0, rest.1)

-- a number before what follows
abbrev pub text : Width → ℕ → List ℕ → List ℕ
text w n rest = spelled w n ++ rest

-- the values' texts one after the other, before what follows
abbrev pub texts : {A : Type 0} → (A → List ℕ → List ℕ) → List A → List ℕ → List ℕ
texts text [] rest = rest
texts text (a ∷ values) rest = text a (texts text values rest)

-- each value is as what stands before it says
abbrev pub AllFrom : {A X : Type 0} → (X → A → Type 0) → (X → A → X) → X → List A → Type 0
AllFrom Is next x [] = Unit {0}
AllFrom Is next x (a ∷ values) = Is x a × AllFrom Is next (next x a) values

-- the refusal that a fault tells
abbrev pub refusal_of : TakeFault → Refusal
refusal_of (takes.Short at) = record { at = at; why = why.Short }
refusal_of (takes.Range at) = record { at = at; why = why.Range }
refusal_of (takes.Trailing at) = record { at = at; why = why.Trailing }

-- A take's answer is what is read from the place before it. It leaves the place behind the number, and a refusal leaves it unchanged.
abbrev pub Takes : {A : Type 0} → Cursor → Cursor → Result A TakeFault → Read (A × Cursor) → Type 0
Takes old new (Ok a) read = read ≡ Ok (a, new)
Takes old new (Err fault) read = (read ≡ Err (refusal_of fault)) × (new ≡ old)

-- a take's answer is the next number, at most so much
abbrev pub TakesNumber : Width → ℕ → Cursor → Cursor → Result ℕ TakeFault → Type 0
TakesNumber w most old new answer = Takes old new answer (number_at w most old)

-- the answer at the end is what is read there
abbrev pub Ends : Result (Unit {0}) TakeFault → Read (Unit {0}) → Type 0
Ends (Ok done) read = read ≡ Ok tt
Ends (Err fault) read = read ≡ Err (refusal_of fault)

-- a fault other than want of memory is the refusal
abbrev pub Refuses : {A : Type 0} → RecoverFault → Read A → Type 0
Refuses (recovers.Bad at why) read = read ≡ Err (record { at = at; why = why })
Refuses recovers.Memory read = ⊤
