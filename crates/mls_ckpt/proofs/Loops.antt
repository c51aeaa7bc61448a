-- Loops that read many values: what is read from here on, behind what was read, is what is read in all.
use Rattle.std.proofs.Common.{◌≡◌, ℕ, zero, suc, List, [], ◌∷◌, ◌++◌, length, Ok, Err, refl, sym, ap, subst, ◌∙◌, append_assoc}
use Rattle.mls_ckpt.specs.declared.faults.RecoverFault.{RecoverFault}
use Rattle.mls_ckpt.specs.declared.faults.RecoverFault.TheVariants as recovers
use Rattle.mls_ckpt.specs.declared.faults.TakeFault.{TakeFault}
use Rattle.mls_ckpt.specs.declared.faults.TakeFault.TheVariants as takes
use Rattle.mls_ckpt.specs.Faults.{bad_of}
use Rattle.mls_ckpt.specs.Reading.{Cursor, Read, Refusal, ◌>>=◌, Refuses, many, refusal_of, AllFrom}
use Rattle.mls_ckpt.specs.Recovering.{behind_these}
use Rattle.mls_ckpt.proofs.Numbers.{same_ok}
use Rattle.mls_ckpt.proofs.Steps.{both}

-- a take's fault is its refusal
pub refuses_taken : {A : Type 0} (fault : TakeFault) (read : Read A) → read ≡ Err (refusal_of fault) → Refuses (bad_of fault) read
refuses_taken (takes.Short at) read e = e
refuses_taken (takes.Range at) read e = e
refuses_taken (takes.Trailing at) read e = e

join : {A : Type 0} (before : List A) (a : A) (r : Read (List A × Cursor)) → behind_these (before ++ a ∷ []) r ≡ behind_these before (r >>= (λ rest. Ok (a ∷ rest.0, rest.1)))
join {A = A} before a (Ok r) = ap (λ (l : List A). let read : Read (List A × Cursor) = Ok (l, r.1) in read) (append_assoc before (a ∷ []) r.0)
join before a (Err refusal) = refl

more : {A X : Type 0} (step : X → Cursor → Read (A × Cursor)) (next : X → A → X) (before : List A) (m : ℕ) (x : X) (c after : Cursor) (a : A) → step x c ≡ Ok (a, after)
    → behind_these (before ++ a ∷ []) (many step next m (next x a) after) ≡ behind_these before (many step next (suc m) x c)
more step next before m x c after a e = rw e (join before a (many step next m (next x a) after))

-- a value more was read
pub loop_goes_on : {A X : Type 0} (step : X → Cursor → Read (A × Cursor)) (next : X → A → X) (before : List A) (n m : ℕ) (x : X) (c after : Cursor) (a : A) (whole : Read (List A × Cursor)) → n ≡ suc m → step x c ≡ Ok (a, after)
    → behind_these before (many step next n x c) ≡ whole → behind_these (before ++ a ∷ []) (many step next m (next x a) after) ≡ whole
loop_goes_on step next before n m x c after a whole is e so_far =
    more step next before m x c after a e ∙ ap (λ k. behind_these before (many step next k x c)) (sym is) ∙ so_far

-- all were read
pub loop_ends : {A X : Type 0} (step : X → Cursor → Read (A × Cursor)) (next : X → A → X) (before : List A) (n : ℕ) (x : X) (c : Cursor) (whole : Read (List A × Cursor)) → n ≡ 0
    → behind_these before (many step next n x c) ≡ whole → whole ≡ Ok (before, c)
loop_ends {A = A} step next before n x c whole is so_far =
    sym so_far ∙ ap (λ k. behind_these before (many step next k x c)) is ∙ ap (λ (l : List A). let read : Read (List A × Cursor) = Ok (l, c) in read) (append_none before)
  where
    append_none : {A : Type 0} (l : List A) → l ++ [] ≡ l
    append_none [] = refl
    append_none (a ∷ l) = ap (λ r. a ∷ r) (append_none l)

-- the next is refused
stops : {A X : Type 0} (step : X → Cursor → Read (A × Cursor)) (next : X → A → X) (before : List A) (m : ℕ) (x : X) (c : Cursor) (refusal : Refusal) → step x c ≡ Err refusal
    → behind_these before (many step next (suc m) x c) ≡ Err refusal
stops step next before m x c refusal e = rw e refl

refused_behind : {A : Type 0} (before : List A) (read : Read (List A × Cursor)) (refusal : Refusal) → behind_these before read ≡ Err refusal → read ≡ Err refusal
refused_behind before (Ok r) refusal e = absurd (let clash : ⊥ = cc in clash)
refused_behind before (Err other) refusal e = e

pub loop_refuses : {A X : Type 0} (step : X → Cursor → Read (A × Cursor)) (next : X → A → X) (before first : List A) (n m : ℕ) (x : X) (c : Cursor) (fault : RecoverFault) (whole : Read (List A × Cursor)) → n ≡ suc m → Refuses fault (step x c)
    → behind_these before (many step next n x c) ≡ behind_these first whole → Refuses fault whole
loop_refuses step next before first n m x c (recovers.Bad at why) whole is e so_far =
    refused_behind first whole _ (sym so_far ∙ ap (λ k. behind_these before (many step next k x c)) is ∙ stops step next before m x c _ e)
loop_refuses step next before first n m x c recovers.Memory whole is e so_far = tt

-- what was read behind other values
pub read_behind : {A : Type 0} (before values : List A) (new : Cursor) (read : Read (List A × Cursor)) → behind_these before read ≡ Ok (values, new) → (own : List A) × (read ≡ Ok (own, new)) × (values ≡ before ++ own)
read_behind {A = A} before values new (Ok r) e =
    let same : (before ++ r.0, r.1) ≡ (values, new) = same_ok _ _ e in
    (r.0, ap (λ (q : List A × Cursor). let read : Read (List A × Cursor) = Ok (r.0, q.1) in read) same, sym (ap (λ (q : List A × Cursor). q.0) same))
read_behind before values new (Err refusal) e = absurd (let clash : ⊥ = cc in clash)

pub behind_none : {A : Type 0} (read : Read (List A × Cursor)) → behind_these [] read ≡ read
behind_none (Ok r) = refl
behind_none (Err refusal) = refl

-- many values that were read are as many, and each is as its step says
pub many_valid : {A X : Type 0} (Is : X → A → Type 0) (step : X → Cursor → Read (A × Cursor)) (next : X → A → X) → ((x : X) (c : Cursor) (r : A × Cursor) → step x c ≡ Ok r → Is x r.0)
    → (n : ℕ) (x : X) (c : Cursor) (r : List A × Cursor) → many step next n x c ≡ Ok r → (length r.0 ≡ n) × AllFrom Is next x r.0
many_valid {A = A} Is step next valid zero x c r e = subst (λ (p : List A × Cursor). (length p.0 ≡ 0) × AllFrom Is next x p.0) (same_ok _ _ e) (refl, tt)
many_valid {A = A} Is step next valid (suc n) x c r e =
    let one = both (step x c) _ r e in
    let two = both (many step next n (next x one.0.0) one.0.1) _ r one.2 in
    let others = many_valid Is step next valid n (next x one.0.0) one.0.1 two.0 two.1 in
    subst (λ (p : List A × Cursor). (length p.0 ≡ suc n) × AllFrom Is next x p.0) (same_ok _ _ two.2) (ap suc others.0, (valid x c one.0 one.1, others.1))
