-- Fronts of a text that is written part by part.
use Rattle.std.proofs.Common.{◌≡◌, ℕ, zero, suc, ◌+◌, ◌<◌, ◌≤◌, Bool, true, false, List, [], ◌++◌, length, Option, ◌⊎◌, inl, inr, ltb, refl, sym, ◌∙◌, ap, subst, append_assoc, append-nil, length-append, arith}
use Rattle.std.specs.Prelude.{Result, Ok, Err, OnOk, OnErr, is_err}
use Rattle.std.specs.List.{flat_map}
use Rattle.std.proofs.lemmas.Bool.{cases_Bool, ltb-true, ltb-false}
use Rattle.mls_base.specs.Told.{MayCease}
use Rattle.mls_model.specs.Numbers.{below}
use Rattle.mls_model.specs.Frames.{bye, spelling}
use Rattle.mls_design.proofs.Counting.{flat_map-below_more}
use Rattle.mls_wire.specs.Links.{Talk, after_write, SentFront}
use Rattle.mls_wire.specs.Sessions.{bye_bytes}
use Rattle.mls_group.specs.Faults.{SureStop}
use Rattle.mls_group.specs.declared.faults.Stop.{Stop}
use Rattle.mls_group.specs.declared.faults.Stop.TheVariants as stop
use Rattle.mls_wire.proofs.Sent.{write-write, write-nil}

-- a front of what follows a written part is a front of the whole
pub front_after : (old mid new : Option Talk) (part text : List ℕ) → mid ≡ after_write part old → SentFront mid new text → SentFront old new (part ++ text)
front_after old mid new part text wrote front =
    let P : Option Talk → Type 0 = λ o. MayCease o new in
    record {
      front = part ++ front.front;
      rest = front.rest;
      is_text = append_assoc part front.front front.rest ∙ ap (λ xs. part ++ xs) front.is_text;
      written = subst P (ap (λ o. after_write front.front o) wrote ∙ write-write old part front.front) front.written;
    }

-- a front of a part is a front of the whole
pub front_more : (old new : Option Talk) (part text : List ℕ) → SentFront old new part → SentFront old new (part ++ text)
front_more old new part text front = record {
  front = front.front;
  rest = front.rest ++ text;
  is_text = sym (append_assoc front.front front.rest text) ∙ ap (λ xs. xs ++ text) front.is_text;
  written = front.written;
}

-- what stands behind the n-th text
pub record Splits (f : ℕ → List ℕ) (k n : ℕ) : Type 0 where
  pub rest : List ℕ
  pub is : (flat_map f (below k) ++ f k) ++ rest ≡ flat_map f (below n)

splits_more : (f : ℕ → List ℕ) (k n : ℕ) → Splits f k n → Splits f k (suc n)
splits_more f k n s = record {
  rest = s.rest ++ f n;
  is = sym (append_assoc (flat_map f (below k) ++ f k) s.rest (f n)) ∙ ap (λ xs. xs ++ f n) s.is ∙ sym (flat_map-below_more f n) ∙ ap (λ m. flat_map f (below m)) {x = n + 1} {y = suc n} (omega arith);
}

splits_last : (f : ℕ → List ℕ) (k : ℕ) → Splits f k (suc k)
splits_last f k = record {
  rest = [];
  is = append-nil (flat_map f (below k) ++ f k) ∙ sym (flat_map-below_more f k) ∙ ap (λ m. flat_map f (below m)) {x = k + 1} {y = suc k} (omega arith);
}

le_cases : (k n : ℕ) → k ≤ n → (k < n) ⊎ (k ≡ n)
le_cases k n le = elim (cases_Bool (ltb k n)) [
  | inl t ↦ inl (ltb-true k n t)
  | inr f ↦ inr (omega (arith, le, ltb-false k n f))
]

pub splits : (f : ℕ → List ℕ) (k n : ℕ) → k < n → Splits f k n
splits f k zero less = absurd (omega arith)
splits f k (suc n) less =
    elim (le_cases k n (omega arith)) [
      | inl lower ↦ splits_more f k n (splits f k n lower)
      | inr same ↦ subst (λ m. Splits f k (suc m)) same (splits_last f k)
    ]

-- a front of the k-th text is a front of all of them
pub front_in : (f : ℕ → List ℕ) (k n : ℕ) (old mid new : Option Talk) → k < n → mid ≡ after_write (flat_map f (below k)) old → SentFront mid new (f k) → SentFront old new (flat_map f (below n))
front_in f k n old mid new less wrote front =
    let s = splits f k n less in
    subst (λ text. SentFront old new text) s.is (front_more old new (flat_map f (below k) ++ f k) s.rest (front_after old mid new (flat_map f (below k)) (f k) wrote front))

-- and no longer than all of them
pub length_in : (f : ℕ → List ℕ) (k n : ℕ) → k < n → length (flat_map f (below k)) + length (f k) ≤ length (flat_map f (below n))
length_in f k n less =
    let s = splits f k n less in
    omega (arith, ap length s.is, length-append (flat_map f (below k) ++ f k) s.rest, length-append (flat_map f (below k)) (f k))

-- one text more
pub write_more : (f : ℕ → List ℕ) (k : ℕ) (old mid new : Option Talk) → mid ≡ after_write (flat_map f (below k)) old → new ≡ after_write (f k) mid → new ≡ after_write (flat_map f (below (k + 1))) old
write_more f k old mid new so_far wrote = wrote ∙ ap (λ o. after_write (f k) o) so_far ∙ write-write old (flat_map f (below k)) (f k) ∙ ap (λ text. after_write text old) (sym (flat_map-below_more f k))

pub length_more : (f : ℕ → List ℕ) (k : ℕ) → length (flat_map f (below (k + 1))) ≡ length (flat_map f (below k)) + length (f k)
length_more f k = ap length (flat_map-below_more f k) ∙ length-append (flat_map f (below k)) (f k)

-- Bye or nothing
pub bye_last : (group life : ℕ) (last : Bool) → last ≡ true → spelling (bye group life) ≡ bye_bytes group life last
unfolding bye_bytes
bye_last group life true is = refl
bye_last group life false is = cc

pub no_bye : (group life : ℕ) (last : Bool) → last ≡ false → [] ≡ bye_bytes group life last
unfolding bye_bytes
no_bye group life true is = cc
no_bye group life false is = refl

pub write_none : (text : List ℕ) (old : Option Talk) → [] ≡ text → old ≡ after_write text old
write_none text old is = sym (write-nil old) ∙ ap (λ xs. after_write xs old) is

-- what holds of an error holds where there is one
pub on_err : {T E : Type 0} (r : Result T E) (P : Type 0) → P → OnErr r P
on_err (Ok value) P p = tt
on_err (Err fault) P p = p

-- a link that takes the whole text for sure takes its parts
pub sure_more : (why : Stop) (sure mid before size all : ℕ) → sure ≤ mid + before → before + size ≤ all → SureStop why mid size → SureStop why sure all
sure_more stop.Link sure mid before size all a b less = omega (arith, a, b, less)
sure_more stop.Memory sure mid before size all a b less = tt

-- what holds of a value holds where there is no error
pub on_ok : {T E : Type 0} (r : Result T E) (P : Type 0) → is_err r ≡ false → OnOk r P → P
on_ok (Ok value) P e p = p
on_ok (Err fault) P e p = cc
