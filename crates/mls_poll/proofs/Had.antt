-- What is read of a polled link.
use Rattle.std.proofs.Common.{◌≡◌, ℕ, List, [], ◌++◌, take, drop, length, Option, Some, None, IfSome, refl, sym, ◌∙◌, ap, subst, append_assoc, arith}
use Rattle.std.proofs.Math.Seq.{take-append_seam}
use Rattle.std.proofs.lemmas.List.{append-nil, length-take, take-append-drop}
use Rattle.mls_wire.specs.Links.{Talk, Gives, after_read}
use Rattle.mls_poll.specs.Reads.{HasRead}

pub read_none : (told : Option Talk) → HasRead [] told told
read_none None = tt
read_none (Some talk) = record { read = sym (append-nil talk.read); left = refl; written = refl }

pub read_more : (a b : List ℕ) (old mid new : Option Talk) → HasRead a old mid → HasRead b mid new → HasRead (a ++ b) old new
read_more a b None None None p q = tt
read_more a b None None (Some new) p q = q
read_more a b None (Some mid) new p q = absurd p
read_more a b (Some old) None new p q = absurd p
read_more a b (Some old) (Some mid) None p q = q
read_more a b (Some old) (Some mid) (Some new) p q = record {
  read = q.read ∙ ap (λ xs. xs ++ b) p.read ∙ append_assoc old.read a b;
  left = p.left ∙ ap (λ xs. a ++ xs) q.left ∙ sym (append_assoc a b new.left);
  written = q.written ∙ p.written;
}

-- the bytes that a read gave, in front of a buffer
given : (left : List ℕ) (n : ℕ) (old new : List ℕ) → Gives left n old new → take n new ≡ take n left
given left n old new gives =
    let size : length (take n left) ≡ n = omega (arith, length-take n left, gives.within) in
    ap (λ xs. take n xs) gives.front
    ∙ ap (λ m. take m (take n left ++ drop n old)) {x = n} {y = length (take n left)} (sym size)
    ∙ take-append_seam (take n left) (drop n old)

pub has_read : (n : ℕ) (old new : Option Talk) (buffer filled : List ℕ) → IfSome old (λ talk. Gives talk.left n buffer filled) → new ≡ after_read n old → HasRead (take n filled) old new
has_read n None new buffer filled gives moved = subst (HasRead (take n filled) None) (sym moved) tt
has_read n (Some talk) new buffer filled gives moved =
    let part : take n filled ≡ take n talk.left = given talk.left n buffer filled gives in
    subst (HasRead (take n filled) (Some talk)) (sym moved) (record {
      read = ap (λ xs. talk.read ++ xs) (sym part);
      left = sym (take-append-drop n talk.left) ∙ ap (λ xs. xs ++ drop n talk.left) (sym part);
      written = refl;
    })

pub nothing_left : (n : ℕ) (old : Option Talk) (buffer filled : List ℕ) → IfSome old (λ talk. Gives talk.left n buffer filled) → n ≡ 0 → IfSome old (λ talk. talk.left ≡ [])
nothing_left n None buffer filled gives e = tt
nothing_left n (Some talk) buffer filled gives e = gives.ended e
