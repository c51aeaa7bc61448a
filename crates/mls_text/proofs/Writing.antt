-- How texts that are written one after another make one text.
use Rattle.std.proofs.Common.{◌≡◌, List, [], ℕ, ◌++◌, ◌+◌, ◌<◌, ◌≤◌, length, length-append, drop, sym, ◌∙◌, ap, subst, append_assoc, refl, Result, Ok, Err, get_or, add-one, drop-cons, arith}
use Rattle.std.proofs.lemmas.List.{append-nil, drop_all}
use Rattle.std.specs.List.{flat_map}
use Rattle.std.specs.Result.{IsErrAnd}
use Rattle.mls_base.specs.declared.faults.Failed.{Failed}
use Rattle.mls_base.specs.Told.{appended}
use Rattle.mls_base.proofs.Told.{appended-appended, appended-nil, Rose-after, WroteFront-more, WroteFront-after}
use Rattle.mls_text.specs.Writing.{SinkState, Wrote, FailedAfter, Writes}

-- nothing is out
pub none_out : (old : SinkState) → Wrote old old []
none_out old = record { told = sym (appended-nil old.told); faults = refl; sure = omega arith }

-- two parts are out
pub both_out : (a b : List ℕ) (old mid new : SinkState) → Wrote old mid a → Wrote mid new b → Wrote old new (a ++ b)
both_out a b old mid new first second = record {
  told = second.told ∙ ap (λ o. appended o b) first.told ∙ appended-appended old.told a b;
  faults = second.faults ∙ first.faults;
  sure = omega (arith, first.sure, second.sure, length-append a b);
}

-- A text that begins with what failed went out to a front of it.
pub first_failed : (a b : List ℕ) (old new : SinkState) → FailedAfter old new a → FailedAfter old new (a ++ b)
first_failed a b old new failed = record {
  front = WroteFront-more old.told new.told a b failed.front;
  rose = failed.rose;
  unsure = omega (arith, failed.unsure, length-append a b);
}

-- One of which a first part is out already.
pub later_failed : (a b : List ℕ) (old mid new : SinkState) → Wrote old mid a → FailedAfter mid new b → FailedAfter old new (a ++ b)
later_failed a b old mid new first failed = record {
  front = WroteFront-after old.told mid.told new.told a b first.told failed.front;
  rose = Rose-after old.faults mid.faults new.faults first.faults failed.rose;
  unsure = omega (arith, first.sure, failed.unsure, length-append a b);
}

-- the rest of a text after a first part
pub writes_after : {A : Type 0} (r : Result A Failed) (a b : List ℕ) (old mid new : SinkState) → Wrote old mid a → Writes r b mid new → Writes r (a ++ b) old new
writes_after (Ok x) a b old mid new first rest = both_out a b old mid new first rest
writes_after (Err e) a b old mid new first rest = later_failed a b old mid new first rest

-- the exit of a `?` behind a write that failed
pub failed_writes : {A : Type 0} (Q : Failed → Type 0) (r : Result A Failed) (text : List ℕ) (old new : SinkState) → IsErrAnd r Q → FailedAfter old new text → Writes r text old new
failed_writes Q (Ok x) text old new e failed = absurd e
failed_writes Q (Err f) text old new e failed = failed

-- a line was written that is this text
pub line_out : (line text : List ℕ) (old new : SinkState) → line ≡ text → Wrote old new line → Wrote old new text
line_out line text old new same out = subst (Wrote old new) same out

pub line_failed : (line text : List ℕ) (old new : SinkState) → line ≡ text → FailedAfter old new line → FailedAfter old new text
line_failed line text old new same failed = subst (FailedAfter old new) same failed

pub line_writes : {A : Type 0} (r : Result A Failed) (line text : List ℕ) (old new : SinkState) → line ≡ text → Writes r line old new → Writes r text old new
line_writes r line text old new same w =
    let P : List ℕ → Type 0 = λ t. Writes r t old new in
    subst P same w

-- a front of the text is out, and the rest is left
pub record IsFrontOut (rest text : List ℕ) (old new : SinkState) : Type 0 where
  pub front : List ℕ
  pub is_text : front ++ rest ≡ text
  pub written : Wrote old new front

pub front_none : (text : List ℕ) (old : SinkState) → IsFrontOut text text old old
front_none text old = record { front = []; is_text = refl; written = none_out old }

-- a part of the rest goes out
pub front_more : (part rest text : List ℕ) (old mid new : SinkState) → IsFrontOut (part ++ rest) text old mid → Wrote mid new part → IsFrontOut rest text old new
front_more part rest text old mid new f out = record {
  front = f.front ++ part;
  is_text = append_assoc f.front part rest ∙ f.is_text;
  written = both_out f.front part old mid new f.written out;
}

-- all is out
pub front_all : (text : List ℕ) (old new : SinkState) → IsFrontOut [] text old new → Wrote old new text
front_all text old new f = line_out f.front text old new (sym (append-nil f.front) ∙ f.is_text) f.written

-- a write of a part of the rest failed
pub front_failed : (part rest text : List ℕ) (old mid new : SinkState) → IsFrontOut (part ++ rest) text old mid → FailedAfter mid new part → FailedAfter old new text
front_failed part rest text old mid new f failed =
    line_failed (f.front ++ (part ++ rest)) text old new f.is_text (later_failed f.front (part ++ rest) old mid new f.written (first_failed part rest mid new failed))

-- the text of the element at a place, and the texts after it
texts_at : {X : Type 0} (f : X → List ℕ) (i : ℕ) (xs : List X) (d : X) → i < length xs → flat_map f (drop i xs) ≡ f (get_or xs i d) ++ flat_map f (drop (i + 1) xs)
texts_at f i xs d here = ap (λ ys. flat_map f ys) (drop-cons xs i d here) ∙ ap (λ n. f (get_or xs i d) ++ flat_map f (drop n xs)) (sym (add-one i))

-- A loop over a list writes a text for each element: it begins, one more is out, its write failed, all are out.
pub texts_none : {X : Type 0} (f : X → List ℕ) (xs : List X) (old : SinkState) → IsFrontOut (flat_map f (drop 0 xs)) (flat_map f xs) old old
texts_none f xs old = front_none (flat_map f xs) old

pub texts_more : {X : Type 0} (f : X → List ℕ) (i : ℕ) (xs : List X) (d : X) (text : List ℕ) (old mid new : SinkState) → i < length xs → IsFrontOut (flat_map f (drop i xs)) text old mid → Wrote mid new (f (get_or xs i d)) → IsFrontOut (flat_map f (drop (i + 1) xs)) text old new
texts_more f i xs d text old mid new here so_far out =
    front_more (f (get_or xs i d)) (flat_map f (drop (i + 1) xs)) text old mid new
    (let P : List ℕ → Type 0 = λ rest. IsFrontOut rest text old mid in subst P (texts_at f i xs d here) so_far) out

pub texts_failed : {X : Type 0} (f : X → List ℕ) (i : ℕ) (xs : List X) (d : X) (text : List ℕ) (old mid new : SinkState) → i < length xs → IsFrontOut (flat_map f (drop i xs)) text old mid → FailedAfter mid new (f (get_or xs i d)) → FailedAfter old new text
texts_failed f i xs d text old mid new here so_far failed =
    front_failed (f (get_or xs i d)) (flat_map f (drop (i + 1) xs)) text old mid new
    (let P : List ℕ → Type 0 = λ rest. IsFrontOut rest text old mid in subst P (texts_at f i xs d here) so_far) failed

pub texts_all : {X : Type 0} (f : X → List ℕ) (i : ℕ) (xs : List X) (text : List ℕ) (old new : SinkState) → length xs ≤ i → IsFrontOut (flat_map f (drop i xs)) text old new → Wrote old new text
texts_all f i xs text old new past so_far =
    front_all text old new
    (let P : List ℕ → Type 0 = λ rest. IsFrontOut rest text old new in subst P (ap (flat_map f) (drop_all i xs past)) so_far)

-- what takes the pieces of a line together
pub ruleset pieces = (append_assoc, append-nil)
