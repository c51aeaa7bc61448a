-- What was read of a link.
use Rattle.std.proofs.Common.{◌≡◌, ℕ, ◌+◌, List, [], ◌++◌, take, drop, length, Option, Some, None, IfSome, Bool, true, false, not, refl, sym, ◌∙◌, ap, subst, append-nil, length-append, arith}
use Rattle.std.specs.Prelude.{is_some}
use Rattle.std.proofs.Math.Seq.{take-add, take-append_seam}
use Rattle.std.proofs.lemmas.List.{length-take}
use Rattle.mls_wire.specs.Links.{Talk, Gives, after_read}
use Rattle.mls_model.specs.Frames.{sight}
use Rattle.mls_wire.specs.Sessions.{reply_in}
use Rattle.mls_wire.specs.declared.reply.Reply.{Reply}
use Rattle.mls_wire.proofs.Sent.{read-read}
use Rattle.mls_group.specs.Hearing.{HeardNothing}

-- these bytes were read, from a link that tells the first of those that were left
pub record HasRead (bytes : List ℕ) (old now : Option Talk) : Type 0 where
  pub told : now ≡ after_read (length bytes) old
  pub front : IfSome old (λ talk. take (length bytes) talk.left ≡ bytes)

pub read-nothing : (old : Option Talk) → after_read 0 old ≡ old
read-nothing None = refl
read-nothing (Some old) = ap (λ (xs : List ℕ). Some (record { read = xs; left = old.left; written = old.written })) (append-nil old.read)

pub has_none : (old : Option Talk) → HasRead [] old old
has_none None = record { told = refl; front = tt }
has_none (Some talk) = record { told = sym (read-nothing (Some talk)); front = refl }

-- the bytes that a read gave, in front of a buffer
given : (left : List ℕ) (n : ℕ) (old new : List ℕ) → Gives left n old new → take n new ≡ take n left
given left n old new gives =
    let size : length (take n left) ≡ n = omega (arith, length-take n left, gives.within) in
    ap (λ xs. take n xs) gives.front
    ∙ ap (λ m. take m (take n left ++ drop n old)) {x = n} {y = length (take n left)} (sym size)
    ∙ take-append_seam (take n left) (drop n old)

-- n more bytes
pub has_more : (bytes : List ℕ) (old now new : Option Talk) (n : ℕ) (buffer filled : List ℕ) → HasRead bytes old now → length (take n filled) ≡ n → IfSome now (λ talk. Gives talk.left n buffer filled) → new ≡ after_read n now → HasRead (bytes ++ take n filled) old new
has_more bytes None now new n buffer filled so_far many gives moved = record { told = moved ∙ ap (λ o. after_read n o) so_far.told; front = tt }
has_more bytes (Some talk) now new n buffer filled so_far many gives moved =
    let P : Option Talk → Type 0 = λ o. IfSome o (λ t. Gives t.left n buffer filled) in
    let g : Gives (drop (length bytes) talk.left) n buffer filled = subst P so_far.told gives in
    let part : take n filled ≡ take n (drop (length bytes) talk.left) = given (drop (length bytes) talk.left) n buffer filled g in
    let size : length (bytes ++ take n filled) ≡ length bytes + n = omega (arith, length-append bytes (take n filled), many) in
    record {
      told = moved ∙ ap (λ o. after_read n o) so_far.told ∙ read-read (Some talk) (length bytes) n ∙ ap (λ k. after_read k (Some talk)) (sym size);
      front = ap (λ k. take k talk.left) size ∙ take-add (length bytes) n talk.left ∙ ap (λ xs. xs ++ take n (drop (length bytes) talk.left)) so_far.front ∙ ap (λ xs. bytes ++ xs) (sym part);
    }

-- what these bytes say
pub says : (bytes : List ℕ) (old now : Option Talk) (reply : Option Reply) → HasRead bytes old now → reply ≡ reply_in bytes → IfSome old (λ talk. reply_in (take (length bytes) talk.left) ≡ reply)
says bytes None now reply has is = tt
says bytes (Some talk) now reply has is = ap (λ xs. reply_in xs) has.front ∙ sym is

pub heard_nothing : (bytes : List ℕ) (old now : Option Talk) → HasRead bytes old now → None ≡ reply_in bytes → HeardNothing old now
heard_nothing bytes old now has is = record { read = length bytes; told = has.told; says = says bytes old now None has is }

pub says_nothing : ◌≡◌ {A = Option Reply} None (reply_in [])
unfolding sight
says_nothing = refl

pub none_by : (o : Option Reply) (b : Bool) → is_some o ≡ not b → b ≡ true → o ≡ None
none_by None b e t = refl
none_by (Some reply) true e t = cc
none_by (Some reply) false e t = cc
