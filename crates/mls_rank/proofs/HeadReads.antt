-- Numbers that are fixed, read one after the other.
use Rattle.std.proofs.Common.{◌≡◌, ℕ, suc, ◌+◌, ◌<◌, ◌≤◌, List, [], ◌∷◌, ◌++◌, length, map, drop, Result, Ok, Err, refl, ap, sym, ◌∙◌, subst, arith, drop-cons}
use Rattle.std.specs.Prelude.{slice_index}
use Rattle.std.specs.Result.{IsErrAnd}
use Rattle.std.specs.Int.{Width, w16, w8}
use Rattle.std.proofs.lemmas.List.{drop_all}
use Rattle.mls_ckpt.specs.declared.faults.CkptWhy.TheVariants as why
use Rattle.mls_ckpt.specs.declared.faults.RecoverFault.{RecoverFault}
use Rattle.mls_ckpt.specs.declared.faults.RecoverFault.TheVariants as recovers
use Rattle.mls_ckpt.specs.Reading.{Cursor, Read, Refuses, ◌>>=◌, fixed_at}
use Rattle.mls_ckpt.specs.Checkpoints.{all_fixed}
use Rattle.mls_model.specs.Studies.{Sizes}
use Rattle.mls_ckpt.specs.Spellings.{samples_byte, head_numbers}
use Rattle.mls_rank.specs.Heads.{Passes, mesh_numbers}
use Rattle.mls_rank.proofs.HeadTexts.{sized}

-- a fault that is handed on
pub passed_on : (answer : Result (Unit {0}) RecoverFault) (fault : RecoverFault) (new : Cursor) (read : Read Cursor) → IsErrAnd answer (λ other. other ≡ fault) → Refuses fault read → Passes new answer read
passed_on (Ok done) fault new read handed refuses = absurd handed
passed_on (Err other) fault new read handed refuses = subst (λ f. Refuses f read) (sym handed) refuses

-- numbers behind others

three_reads : (first second both : Cursor → Read Cursor) → ((c : Cursor) → both c ≡ (first c >>= second)) → (read : Read Cursor) → (read >>= both) ≡ ((read >>= first) >>= second)
three_reads first second both each (Ok next) = each next
three_reads first second both each (Err refusal) = refl

append_read : (xs ys : List (Width × ℕ)) (c : Cursor) → all_fixed (xs ++ ys) c ≡ (all_fixed xs c >>= all_fixed ys)
append_read [] ys c = refl
append_read (x ∷ xs) ys c = three_reads (all_fixed xs) (all_fixed ys) (all_fixed (xs ++ ys)) (λ d. append_read xs ys d) (fixed_at why.Shape x.0 x.1 c)

pub append_passes : (xs ys : List (Width × ℕ)) (old mid new : Cursor) (answer : Result (Unit {0}) RecoverFault) → all_fixed xs old ≡ Ok mid → Passes new answer (all_fixed ys mid) → Passes new answer (all_fixed (xs ++ ys) old)
append_passes xs ys old mid new answer first second =
    subst (Passes new answer) (sym (append_read xs ys old ∙ ap (λ r. r >>= all_fixed ys) first)) second

pub append_refuses : (xs ys : List (Width × ℕ)) (old : Cursor) (fault : RecoverFault) → Refuses fault (all_fixed xs old) → Refuses fault (all_fixed (xs ++ ys) old)
append_refuses xs ys old (recovers.Bad at why) first = append_read xs ys old ∙ ap (λ r. r >>= all_fixed ys) first
append_refuses xs ys old recovers.Memory first = tt

-- all numbers behind the version

head_is : (version : ℕ) (s : Sizes) (rank : ℕ) → samples_byte version s ++ mesh_numbers version s rank ≡ head_numbers version s rank
unfolding head_numbers
head_is version s rank = refl

pub head_passes : (version : ℕ) (s : Sizes) (rank : ℕ) (old mid new : Cursor) (answer : Result (Unit {0}) RecoverFault) → all_fixed (samples_byte version s) old ≡ Ok mid → Passes new answer (all_fixed (mesh_numbers version s rank) mid) → Passes new answer (all_fixed (head_numbers version s rank) old)
head_passes version s rank old mid new answer first second = subst (λ l. Passes new answer (all_fixed l old)) (head_is version s rank) (append_passes (samples_byte version s) (mesh_numbers version s rank) old mid new answer first second)

pub head_refuses : (version : ℕ) (s : Sizes) (rank : ℕ) (old : Cursor) (fault : RecoverFault) → Refuses fault (all_fixed (samples_byte version s) old) → Refuses fault (all_fixed (head_numbers version s rank) old)
head_refuses version s rank old fault first = subst (λ l. Refuses fault (all_fixed l old)) (head_is version s rank) (append_refuses (samples_byte version s) (mesh_numbers version s rank) old fault first)

-- the thresholds that are left

next_left : (ts : List ℕ) (i : ℕ) → i < length ts → drop i ts ≡ slice_index ts i ∷ drop (i + 1) ts
next_left ts i within = drop-cons ts i 0 within ∙ ap (λ k. slice_index ts i ∷ drop k ts) (let same : suc i ≡ i + 1 = omega arith in same)

pub threshold_read : (ts : List ℕ) (i : ℕ) (old new : Cursor) (whole : Read Cursor) → i < length ts → fixed_at why.Shape w16 (slice_index ts i) old ≡ Ok new → all_fixed (map sized (drop i ts)) old ≡ whole → all_fixed (map sized (drop (i + 1) ts)) new ≡ whole
threshold_read ts i old new whole within read so_far =
    sym (ap (λ r. r >>= all_fixed (map sized (drop (i + 1) ts))) read) ∙ sym (ap (λ l. all_fixed (map sized l) old) (next_left ts i within)) ∙ so_far

pub threshold_refused : (ts : List ℕ) (i : ℕ) (old : Cursor) (fault : RecoverFault) (whole : Read Cursor) → i < length ts → Refuses fault (fixed_at why.Shape w16 (slice_index ts i) old) → all_fixed (map sized (drop i ts)) old ≡ whole → Refuses fault whole
threshold_refused ts i old (recovers.Bad at why) whole within read so_far =
    sym so_far ∙ ap (λ l. all_fixed (map sized l) old) (next_left ts i within) ∙ ap (λ r. r >>= all_fixed (map sized (drop (i + 1) ts))) read
threshold_refused ts i old recovers.Memory whole within read so_far = tt

pub thresholds_read : (ts : List ℕ) (i : ℕ) (old : Cursor) (whole : Read Cursor) → length ts ≤ i → all_fixed (map sized (drop i ts)) old ≡ whole → whole ≡ Ok old
thresholds_read ts i old whole past so_far = sym so_far ∙ ap (λ l. all_fixed (map sized l) old) (drop_all i ts past)

pub thresholds_begun : (ts : List ℕ) (n : ℕ) (old new : Cursor) → n ≡ length ts → fixed_at why.Shape w8 n old ≡ Ok new → all_fixed (map sized ts) new ≡ all_fixed ((w8, length ts) ∷ map sized ts) old
thresholds_begun ts n old new is read =
    sym (ap (λ r. r >>= all_fixed (map sized ts)) (sym (ap (λ k. fixed_at why.Shape w8 k old) is) ∙ read))
