-- Laws of what is told: one append after another, and a front of a text after a part of it.
use Rattle.std.proofs.Common.{◌≡◌, ℕ, ◌≤◌, List, [], ◌++◌, Option, Some, None, refl, sym, ◌∙◌, ap, subst, append_assoc, arith}
use Rattle.std.proofs.lemmas.List.{append-nil}
use Rattle.mls_base.specs.Told.{appended, MayCease, Rose, WroteFront}

-- one append after another is an append of both
pub appended-appended : (old : Option (List ℕ)) (a b : List ℕ) → appended (appended old a) b ≡ appended old (a ++ b)
appended-appended None a b = refl
appended-appended (Some old) a b = ap (λ (xs : List ℕ). Some xs) (append_assoc old a b)

-- nothing appended leaves what is told
pub appended-nil : (old : Option (List ℕ)) → appended old [] ≡ old
appended-nil None = refl
appended-nil (Some old) = ap (λ (xs : List ℕ). Some xs) (append-nil old)

pub MayCease-same : {A : Type 0} (old : Option A) → MayCease old old
MayCease-same None = tt
MayCease-same (Some value) = refl

-- what is still told after two calls is what was told before them
pub MayCease-trans : {A : Type 0} (a b c : Option A) → MayCease a b → MayCease b c → MayCease a c
MayCease-trans a b None first second = tt
MayCease-trans {A} a b (Some value) first second =
    let P : Option A → Type 0 = λ o. MayCease a o in
    subst P second first

-- what is still told was told before
pub told_before : {A : Type 0} (old new : Option A) (value : A) → MayCease old new → new ≡ Some value → old ≡ Some value
told_before {A} old new value ceased is =
    let P : Option A → Type 0 = λ o. MayCease old o in
    subst P is ceased

-- a front of what follows a written part is a front of the whole
pub WroteFront-after : (old mid new : Option (List ℕ)) (part text : List ℕ) → mid ≡ appended old part → WroteFront mid new text → WroteFront old new (part ++ text)
WroteFront-after old mid new part text wrote front =
    let P : Option (List ℕ) → Type 0 = λ o. MayCease o new in
    record {
      front = part ++ front.front;
      rest = front.rest;
      is_text = append_assoc part front.front front.rest ∙ ap (λ xs. part ++ xs) front.is_text;
      written = subst P (ap (λ o. appended o front.front) wrote ∙ appended-appended old part front.front) front.written;
    }

-- a front of a part is a front of the whole
pub WroteFront-more : (old new : Option (List ℕ)) (part text : List ℕ) → WroteFront old new part → WroteFront old new (part ++ text)
WroteFront-more old new part text front = record {
  front = front.front;
  rest = front.rest ++ text;
  is_text = sym (append_assoc front.front front.rest text) ∙ ap (λ xs. xs ++ text) front.is_text;
  written = front.written;
}

-- where nothing was written, a front was
pub WroteFront-none : (old new : Option (List ℕ)) (text : List ℕ) → MayCease old new → WroteFront old new text
WroteFront-none old new text ceased =
    let P : Option (List ℕ) → Type 0 = λ o. MayCease o new in
    record { front = []; rest = text; is_text = refl; written = subst P (sym (appended-nil old)) ceased }

-- a count that rose after it stood still, rose
pub Rose-after : (before mid now : ℕ) → mid ≡ before → Rose mid now → Rose before now
Rose-after before mid now same rose = let P : ℕ → Type 0 = λ n. Rose n now in subst P same rose

-- a count that rose in a part of a run rose in the run
pub Rose-within : (before mid next now : ℕ) → before ≤ mid → Rose mid next → next ≤ now → Rose before now
Rose-within before mid next now early rose late = record { later = omega (arith, rose.later); higher = omega (arith, rose.higher, rose.later) }

-- A front of the text was written, and this is the rest. Something is told as before.
pub record Written (old now : Option (List ℕ)) (text rest : List ℕ) : Type 0 where
  pub front : List ℕ
  pub is_text : front ++ rest ≡ text
  pub written : now ≡ appended old front

pub Written-none : (old : Option (List ℕ)) (text : List ℕ) → Written old old text text
Written-none old text = record { front = []; is_text = refl; written = sym (appended-nil old) }

pub Written-more : (old now new : Option (List ℕ)) (text rest piece next : List ℕ) → Written old now text rest → piece ++ next ≡ rest → new ≡ appended now piece → Written old new text next
Written-more old now new text rest piece next so_far parts wrote = record {
  front = so_far.front ++ piece;
  is_text = append_assoc so_far.front piece next ∙ ap (λ xs. so_far.front ++ xs) parts ∙ so_far.is_text;
  written = wrote ∙ ap (λ o. appended o piece) so_far.written ∙ appended-appended old so_far.front piece;
}

pub Written-all : (old now : Option (List ℕ)) (text : List ℕ) → Written old now text [] → now ≡ appended old text
Written-all old now text all = all.written ∙ ap (λ xs. appended old xs) (sym (append-nil all.front) ∙ all.is_text)

-- a front of the rest is a front of the text
pub WroteFront-rest : (old now new : Option (List ℕ)) (text rest : List ℕ) → Written old now text rest → WroteFront now new rest → WroteFront old new text
WroteFront-rest old now new text rest so_far front =
    let P : List ℕ → Type 0 = λ xs. WroteFront old new xs in
    subst P so_far.is_text (WroteFront-after old now new so_far.front rest so_far.written front)
