-- Steps one after another: what follows from a whole read, and for many values.
use Rattle.std.proofs.Common.{◌≡◌, ℕ, zero, suc, ◌+◌, true, false, Bool, List, [], ◌∷◌, ◌++◌, length, Ok, Err, refl, sym, ap, subst, ◌∙◌, append_assoc}
use Rattle.mls_ckpt.specs.declared.faults.CkptWhy.{CkptWhy}
use Rattle.std.specs.Int.{Width, byte_len}
use Rattle.mls_model.specs.Numbers.{joined}
use Rattle.mls_ckpt.specs.Reading.{Cursor, Read, ◌>>=◌, test, spelled, number_at, many, text, texts, AllFrom, AreBytes}
use Rattle.mls_ckpt.proofs.Numbers.{Taken, IsRead, same_ok, number_again, number_taken}

-- both steps were read
pub both : {A B : Type 0} (r : Read A) (f : A → Read B) (b : B) → r >>= f ≡ Ok b → (a : A) × (r ≡ Ok a) × (f a ≡ Ok b)
both (Ok a) f b e = (a, refl, e)
both (Err refusal) f b e = absurd (let clash : ⊥ = cc in clash)

-- a test that was passed
pub passed : (holds : Bool) (at : ℕ) (why : CkptWhy) (u : Unit {0}) → test holds at why ≡ Ok u → holds ≡ true
passed true at why u e = refl
passed false at why u e = absurd (let clash : ⊥ = cc in clash)

pub many_again : {A X : Type 0} (text : A → List ℕ → List ℕ) (Is : X → A → Type 0) (step : X → Cursor → Read (A × Cursor)) (next : X → A → X)
    → ((x : X) (a : A) → Is x a → (at : ℕ) (rest : List ℕ) → (place : ℕ) × (step x (record { at = at; left = text a rest }) ≡ Ok (a, record { at = place; left = rest })))
    → (values : List A) (x : X) → AllFrom Is next x values → (at : ℕ) (rest : List ℕ)
    → (place : ℕ) × (many step next (length values) x (record { at = at; left = texts text values rest }) ≡ Ok (values, record { at = place; left = rest }))
many_again text Is step next again [] x each at rest = (at, refl)
many_again text Is step next again (a ∷ values) x each at rest =
    let first = again x a each.0 at (texts text values rest) in
    let others = many_again text Is step next again values (next x a) each.1 first.0 rest in
    (others.0, rw (first.1, others.1) refl)

pub many_taken : {A X : Type 0} (text : A → List ℕ → List ℕ) (Is : X → A → Type 0) (step : X → Cursor → Read (A × Cursor)) (next : X → A → X)
    → ((x : X) (c : Cursor) (r : A × Cursor) → AreBytes c.left → step x c ≡ Ok r → Taken (Is x r.0) (text r.0) c r.1)
    → (n : ℕ) (x : X) (c : Cursor) (r : List A × Cursor) → AreBytes c.left → many step next n x c ≡ Ok r
    → Taken ((length r.0 ≡ n) × AllFrom Is next x r.0) (texts text r.0) c r.1
many_taken {A = A} text Is step next taken zero x c r bytes e = subst (λ (p : List A × Cursor). Taken ((length p.0 ≡ 0) × AllFrom Is next x p.0) (texts text p.0) c p.1) (same_ok _ _ e) (record { valid = (refl, tt); stands = refl; bytes = bytes })
many_taken {A = A} text Is step next taken (suc n) x c r bytes e =
    let one = both (step x c) _ r e in
    let two = both (many step next n (next x one.0.0) one.0.1) _ r one.2 in
    let first = taken x c one.0 bytes one.1 in
    let others = many_taken text Is step next taken n (next x one.0.0) one.0.1 two.0 first.bytes two.1 in
    subst (λ (p : List A × Cursor). Taken ((length p.0 ≡ suc n) × AllFrom Is next x p.0) (texts text p.0) c p.1) (same_ok _ _ two.2)
    (record { valid = (ap suc others.valid.0, (first.valid, others.valid.1)); stands = first.stands ∙ ap (text one.0.0) others.stands; bytes = others.bytes })

-- what each value is implies what each value is
pub all_from : {A X : Type 0} (P Q : X → A → Type 0) (next : X → A → X) → ((x : X) (a : A) → P x a → Q x a) → (values : List A) (x : X) → AllFrom P next x values → AllFrom Q next x values
all_from P Q next implies [] x each = tt
all_from P Q next implies (a ∷ values) x each = (implies x a each.0, all_from P Q next implies values (next x a) each.1)

-- the texts of a longer list, and of lists in a row
pub texts-append : {A : Type 0} (text : A → List ℕ → List ℕ) (xs ys : List A) (rest : List ℕ) → texts text (xs ++ ys) rest ≡ texts text xs (texts text ys rest)
texts-append text [] ys rest = refl
texts-append text (x ∷ xs) ys rest = ap (text x) (texts-append text xs ys rest)

pub texts-joined : {A : Type 0} (text : A → List ℕ → List ℕ) (rows : List (List A)) (rest : List ℕ) → texts text (joined rows) rest ≡ texts (texts text) rows rest
texts-joined text [] rest = refl
texts-joined text (row ∷ rows) rest = texts-append text row (joined rows) rest ∙ ap (texts text row) (texts-joined text rows rest)

-- a number of a width, at most so much each
pub row_again : {X : Type 0} (w : Width) (most : X → ℕ) (next : X → ℕ → X) (values : List ℕ) (x : X) → AllFrom (λ y n. IsRead w (most y) n) next x values → (at : ℕ) (rest : List ℕ)
    → (place : ℕ) × (many (λ y from. number_at w (most y) from) next (length values) x (record { at = at; left = texts (text w) values rest }) ≡ Ok (values, record { at = place; left = rest }))
row_again w most next values x each at rest =
    many_again (text w) (λ y n. IsRead w (most y) n) (λ y from. number_at w (most y) from) next (λ y n is at rest. (at + byte_len w, number_again w (most y) n at rest is.fits is.few)) values x each at rest

pub row_taken : {X : Type 0} (w : Width) (most : X → ℕ) (next : X → ℕ → X) (n : ℕ) (x : X) (c : Cursor) (r : List ℕ × Cursor) → AreBytes c.left → many (λ y from. number_at w (most y) from) next n x c ≡ Ok r
    → Taken ((length r.0 ≡ n) × AllFrom (λ y n. IsRead w (most y) n) next x r.0) (texts (text w) r.0) c r.1
row_taken w most next n x c r bytes e =
    many_taken (text w) (λ y n. IsRead w (most y) n) (λ y from. number_at w (most y) from) next (λ y c r bytes e. number_taken w (most y) c r bytes e) n x c r bytes e

-- a text that stands before what follows is its own before nothing, then what follows
pub texts-front : {A : Type 0} (text : A → List ℕ → List ℕ) → ((a : A) (rest : List ℕ) → text a rest ≡ text a [] ++ rest) → (values : List A) (rest : List ℕ) → texts text values rest ≡ texts text values [] ++ rest
texts-front text front [] rest = refl
texts-front text front (a ∷ values) rest =
    front a (texts text values rest) ∙ ap (λ r. text a [] ++ r) (texts-front text front values rest) ∙ sym (append_assoc (text a []) (texts text values []) rest) ∙ ap (λ r. r ++ rest) (sym (front a (texts text values [])))

pub text-front : (w : Width) (n : ℕ) (rest : List ℕ) → text w n rest ≡ text w n [] ++ rest
text-front w n rest = sym (append_assoc (spelled w n) [] rest)

pub row-front : (w : Width) (values : List ℕ) (rest : List ℕ) → texts (text w) values rest ≡ texts (text w) values [] ++ rest
row-front w values rest = texts-front (text w) (text-front w) values rest
