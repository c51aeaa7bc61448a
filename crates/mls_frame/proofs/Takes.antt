-- What is seen is spelled so.
use Rattle.std.proofs.Common.{◌≡◌, ℕ, zero, suc, ◌+◌, ◌*◌, ◌-◌, ◌≤◌, Bool, true, false, cond, ltb, eqb, not, ◌||◌, ◌%◌, List, [], ◌∷◌, ◌++◌, length, get_or, take, drop, refl, sym, ap, subst, ◌∙◌, arith, append_assoc, ◌⊎◌, inl, inr}
use Rattle.std.specs.Int.{w16, w32, from_be_bytes}
use Rattle.std.specs.List.{flat_map}
use Rattle.std.proofs.lemmas.Bool.{ltb-false, eqb-true}
use Rattle.std.proofs.lemmas.Bool.Decides.{nat_tests}
use Rattle.std.proofs.lemmas.List.{length-append, length-take, length-drop, take-append-drop, drop-drop}
use Rattle.mls_model.specs.declared.lanes.FrameFault.TheVariants.{BadKind, BadLength}
use Rattle.mls_model.specs.Frames.{Frame, piece, IsFrame, Sight, whole, more, bad, number, u16, u32, body, spelling, piece_head, piece_in, samples_in, fixed_frame, fixed_length, fixed_sight, piece_sight, sized_sight, sight, longest_body, is_no_length}
use Rattle.mls_frame.specs.Views.{AreBytes}
use Rattle.mls_frame.proofs.Places.{AreBytes-drop, number_16-below, number_32-below, Stands, both_stand, number_16_stands, number_32_stands, take-add}
use Rattle.mls_frame.proofs.Pieces.{piece_in_is_piece}

-- the fields give back the body behind its kind byte
pub record TakesBody (size kind : ℕ) (fields : List ℕ) (frame : Frame) (used : ℕ) : Type 0 where
  pub fits : IsFrame frame
  pub body : body frame ≡ kind ∷ take (size - 1) fields
  pub some : 1 ≤ size
  pub long : size ≤ 1 + length fields
  pub taken : used ≡ 4 + size

-- ---- the fields of the kinds other than 1

text_of : (bytes text : List ℕ) (size : ℕ) → Stands bytes 0 size text → text ≡ take size bytes
text_of bytes text size s = s.is

sign_text : (fields : List ℕ) → 8 ≤ length fields → AreBytes fields → u32 (number w32 0 fields) ++ u32 (number w32 4 fields) ≡ take 8 fields
sign_text fields long h = text_of fields _ 8 (both_stand fields 0 4 4 (u32 (number w32 0 fields)) (u32 (number w32 4 fields)) (number_32_stands 0 fields (omega arith) h) (number_32_stands 4 fields long h))

hello_text : (fields : List ℕ) → 14 ≤ length fields → AreBytes fields → u16 (number w16 0 fields) ++ (u32 (number w32 2 fields) ++ (u32 (number w32 6 fields) ++ (u16 (number w16 10 fields) ++ u16 (number w16 12 fields)))) ≡ take 14 fields
hello_text fields long h =
    let rank = number_16_stands 12 fields long h in
    let client = both_stand fields 10 2 2 (u16 (number w16 10 fields)) (u16 (number w16 12 fields)) (number_16_stands 10 fields (omega arith) h) rank in
    let life = both_stand fields 6 4 4 (u32 (number w32 6 fields)) (u16 (number w16 10 fields) ++ u16 (number w16 12 fields)) (number_32_stands 6 fields (omega arith) h) client in
    let group = both_stand fields 2 4 8 (u32 (number w32 2 fields)) (u32 (number w32 6 fields) ++ (u16 (number w16 10 fields) ++ u16 (number w16 12 fields))) (number_32_stands 2 fields (omega arith) h) life in
    text_of fields _ 14 (both_stand fields 0 2 12 (u16 (number w16 0 fields)) (u32 (number w32 2 fields) ++ (u32 (number w32 6 fields) ++ (u16 (number w16 10 fields) ++ u16 (number w16 12 fields)))) (number_16_stands 0 fields (omega arith) h) group)

welcome_text : (fields : List ℕ) → 4 ≤ length fields → AreBytes fields → u32 (number w32 0 fields) ≡ take 4 fields
welcome_text fields long h = text_of fields _ 4 (number_32_stands 0 fields long h)

-- the first byte
reason_is : (fields : List ℕ) → from_be_bytes w16 (0 ∷ take 1 fields) ≡ get_or fields 0 0
reason_is [] = omega arith
reason_is (x ∷ xs) = omega arith

refuse_text : (fields : List ℕ) → 5 ≤ length fields → AreBytes fields → from_be_bytes w16 (0 ∷ take 1 fields) ∷ u32 (number w32 1 fields) ≡ take 5 fields
refuse_text [] long h = absurd (omega arith)
refuse_text (x ∷ xs) long h =
    let first : from_be_bytes w16 (0 ∷ x ∷ []) ≡ x = omega arith in
    let rest : u32 (number w32 0 xs) ≡ take 4 xs = welcome_text xs (omega arith) (AreBytes-drop 1 (x ∷ xs) h) in
    cc

-- kind by kind
fixed_takes : (kind : ℕ) (fields : List ℕ) → 2 ≤ kind → kind ≤ 8 → AreBytes fields → fixed_length kind ≤ 1 + length fields → (body (fixed_frame kind fields) ≡ kind ∷ take (fixed_length kind - 1) fields) × IsFrame (fixed_frame kind fields)
unfolding body fixed_frame
fixed_takes zero fields low high h long = absurd (omega arith)
fixed_takes (suc zero) fields low high h long = absurd (omega arith)
fixed_takes (suc (suc zero)) fields low high h long = (ap (λ (t : List ℕ). 2 ∷ t) (sign_text fields (omega arith) h), (number_32-below 0 fields h, number_32-below 4 fields h))
fixed_takes (suc (suc (suc zero))) fields low high h long = (ap (λ (t : List ℕ). 3 ∷ t) (sign_text fields (omega arith) h), (number_32-below 0 fields h, number_32-below 4 fields h))
fixed_takes (suc (suc (suc (suc zero)))) fields low high h long = (refl, tt)
fixed_takes (suc (suc (suc (suc (suc zero))))) fields low high h long = (refl, tt)
fixed_takes (suc (suc (suc (suc (suc (suc zero)))))) fields low high h long = (ap (λ (t : List ℕ). 6 ∷ t) (hello_text fields (omega arith) h), (number_16-below 0 fields h, number_32-below 2 fields h, number_32-below 6 fields h, number_16-below 10 fields h, number_16-below 12 fields h))
fixed_takes (suc (suc (suc (suc (suc (suc (suc zero))))))) fields low high h long = (ap (λ (t : List ℕ). 7 ∷ t) (welcome_text fields (omega arith) h), number_32-below 0 fields h)
fixed_takes (suc (suc (suc (suc (suc (suc (suc (suc zero)))))))) fields low high h long = (ap (λ (t : List ℕ). 8 ∷ t) (refuse_text fields (omega arith) h), (omega (arith, reason_is fields, h 0), number_32-below 1 fields h))
fixed_takes (suc (suc (suc (suc (suc (suc (suc (suc (suc kind))))))))) fields low high h long = absurd (omega arith)

-- ---- chains of tests that ended in a frame

-- the tests of a fixed kind
fixed_passed : (same short : Bool) (f g : Frame) (m n : ℕ) → cond (not same) (bad BadLength) (cond short more (whole g m)) ≡ whole f n → (same ≡ true) × (short ≡ false) × (g ≡ f) × (m ≡ n)
fixed_passed false short f g m n e = absurd cc
fixed_passed true true f g m n e = absurd cc
fixed_passed true false f g m n e = (refl, refl, cc, cc)

piece_passed : (few short same cut : Bool) (f g : Frame) (m n : ℕ) → cond few (bad BadLength) (cond short more (cond (not same) (bad BadLength) (cond cut more (whole g m)))) ≡ whole f n → (few ≡ false) × (short ≡ false) × (same ≡ true) × (cut ≡ false) × (g ≡ f) × (m ≡ n)
piece_passed true short same cut f g m n e = absurd cc
piece_passed false true same cut f g m n e = absurd cc
piece_passed false false false cut f g m n e = absurd cc
piece_passed false false true true f g m n e = absurd cc
piece_passed false false true false f g m n e = (refl, refl, refl, refl, cc, cc)

fixed_some : (kind : ℕ) → 1 ≤ fixed_length kind
fixed_some kind = grind (arith, nat_tests)

fixed_seen : (size kind : ℕ) (fields : List ℕ) (frame : Frame) (used : ℕ) → AreBytes fields → 2 ≤ kind → kind ≤ 8 → fixed_sight size kind fields ≡ whole frame used → TakesBody size kind fields frame used
unfolding fixed_sight
fixed_seen size kind fields frame used h low high e =
    let p = fixed_passed (eqb size (fixed_length kind)) (ltb (1 + length fields) size) frame (fixed_frame kind fields) (4 + size) used e in
    let same : size ≡ fixed_length kind = eqb-true _ _ p.0 in
    let long : size ≤ 1 + length fields = ltb-false _ _ p.1 in
    let t = fixed_takes kind fields low high h (omega arith) in
    record {
      fits = subst (λ (f : Frame). IsFrame f) p.2 t.1;
      body = ap (λ (f : Frame). body f) (sym p.2) ∙ t.0 ∙ ap (λ (n : ℕ). kind ∷ take (n - 1) fields) (sym same);
      some = omega (arith, fixed_some kind);
      long = long;
      taken = sym p.3;
    }

-- ---- pieces

head_text : (fields : List ℕ) → 24 ≤ length fields → AreBytes fields → piece_head (piece_in fields) ≡ take 24 fields
unfolding piece_head piece_in
head_text fields long h =
    let count = number_32_stands 20 fields long h in
    let first = both_stand fields 16 4 4 (u32 (number w32 16 fields)) (u32 (number w32 20 fields)) (number_32_stands 16 fields (omega arith) h) count in
    let rows = both_stand fields 14 2 8 (u16 (number w16 14 fields)) (u32 (number w32 16 fields) ++ u32 (number w32 20 fields)) (number_16_stands 14 fields (omega arith) h) first in
    let client = both_stand fields 12 2 10 (u16 (number w16 12 fields)) (u16 (number w16 14 fields) ++ (u32 (number w32 16 fields) ++ u32 (number w32 20 fields))) (number_16_stands 12 fields (omega arith) h) rows in
    let plane = both_stand fields 8 4 12 (u32 (number w32 8 fields)) (u16 (number w16 12 fields) ++ (u16 (number w16 14 fields) ++ (u32 (number w32 16 fields) ++ u32 (number w32 20 fields)))) (number_32_stands 8 fields (omega arith) h) client in
    let group = both_stand fields 4 4 16 (u32 (number w32 4 fields)) (u32 (number w32 8 fields) ++ (u16 (number w16 12 fields) ++ (u16 (number w16 14 fields) ++ (u32 (number w32 16 fields) ++ u32 (number w32 20 fields))))) (number_32_stands 4 fields (omega arith) h) plane in
    text_of fields _ 24 (both_stand fields 0 4 20 (u32 (number w32 0 fields)) (u32 (number w32 4 fields) ++ (u32 (number w32 8 fields) ++ (u16 (number w16 12 fields) ++ (u16 (number w16 14 fields) ++ (u32 (number w32 16 fields) ++ u32 (number w32 20 fields)))))) (number_32_stands 0 fields (omega arith) h) group)

piece_in-samples : (fields : List ℕ) → (piece_in fields).samples ≡ samples_in (number w16 14 fields * number w32 20 fields) (drop 24 fields)
unfolding piece_in
piece_in-samples fields = refl

samples_text : (n : ℕ) (bytes : List ℕ) → 2 * n ≤ length bytes → AreBytes bytes → flat_map u16 (samples_in n bytes) ≡ take (2 * n) bytes
unfolding samples_in
samples_text zero bytes long h = refl
samples_text (suc n) bytes long h =
    let first : u16 (number w16 0 bytes) ≡ take 2 bytes = text_of bytes _ 2 (number_16_stands 0 bytes (omega arith) h) in
    let others : flat_map u16 (samples_in n (drop 2 bytes)) ≡ take (2 * n) (drop 2 bytes) = samples_text n (drop 2 bytes) (omega (arith, length-drop 2 bytes)) (AreBytes-drop 2 bytes h) in
    let joined : u16 (number w16 0 bytes) ++ flat_map u16 (samples_in n (drop 2 bytes)) ≡ take 2 bytes ++ take (2 * n) (drop 2 bytes) = ap (λ (t : List ℕ). t ++ flat_map u16 (samples_in n (drop 2 bytes))) first ∙ ap (λ (t : List ℕ). take 2 bytes ++ t) others in
    let two : 2 + 2 * n ≡ 2 * suc n = omega arith in
    joined ∙ take-add 2 (2 * n) bytes ∙ ap (λ (m : ℕ). take m bytes) two

piece_text : (fields : List ℕ) (m : ℕ) → 24 + 2 * (number w16 14 fields * number w32 20 fields) ≡ m → m ≤ length fields → AreBytes fields → body (piece (piece_in fields)) ≡ 1 ∷ take m fields
unfolding body
piece_text fields m size long h =
    let n = number w16 14 fields * number w32 20 fields in
    let samples : flat_map u16 (samples_in n (drop 24 fields)) ≡ take (2 * n) (drop 24 fields) = samples_text n (drop 24 fields) (omega (arith, length-drop 24 fields)) (AreBytes-drop 24 fields h) in
    let head = head_text fields (omega arith) h in
    let all : piece_head (piece_in fields) ++ flat_map u16 (samples_in n (drop 24 fields)) ≡ take m fields = ap (λ (t : List ℕ). t ++ flat_map u16 (samples_in n (drop 24 fields))) head ∙ ap (λ (t : List ℕ). take 24 fields ++ t) samples ∙ take-add 24 (2 * n) fields ∙ ap (λ (k : ℕ). take k fields) size in
    ap (λ (t : List ℕ). 1 ∷ t) (ap (λ (t : List ℕ). piece_head (piece_in fields) ++ flat_map u16 t) (piece_in-samples fields) ∙ all)

piece_seen : (size : ℕ) (fields : List ℕ) (frame : Frame) (used : ℕ) → AreBytes fields → size ≤ longest_body → piece_sight size fields ≡ whole frame used → TakesBody size 1 fields frame used
unfolding piece_sight
piece_seen size fields frame used h bound e =
    let p = piece_passed (ltb size 25 || eqb (size % 2) 0) (ltb (length fields) 24) (eqb size (25 + 2 * (number w16 14 fields * number w32 20 fields))) (ltb (1 + length fields) size) frame (piece (piece_in fields)) (4 + size) used e in
    let same : size ≡ 25 + 2 * (number w16 14 fields * number w32 20 fields) = eqb-true _ _ p.2 in
    let long : size ≤ 1 + length fields = ltb-false _ _ p.3 in
    record {
      fits = subst (λ (f : Frame). IsFrame f) p.4 (piece_in_is_piece fields h (omega arith));
      body = ap (λ (f : Frame). body f) (sym p.4) ∙ piece_text fields (size - 1) (omega arith) (omega arith) h;
      some = omega arith;
      long = long;
      taken = sym p.5;
    }

-- ---- all kinds

kind_passed : (none strange : Bool) (x : Sight) (f : Frame) (n : ℕ) → cond none (bad BadLength) (cond strange (bad BadKind) x) ≡ whole f n → (none ≡ false) × (strange ≡ false) × (x ≡ whole f n)
kind_passed true strange x f n e = absurd cc
kind_passed false true x f n e = absurd cc
kind_passed false false x f n e = (refl, refl, e)

kind_chosen : (b : Bool) (x y z : Sight) → cond b x y ≡ z → ((b ≡ true) × (x ≡ z)) ⊎ ((b ≡ false) × (y ≡ z))
kind_chosen true x y z e = inl (refl, e)
kind_chosen false x y z e = inr (refl, e)

length_known : (size : ℕ) → is_no_length size ≡ false → size ≤ longest_body
length_known size e = grind (arith, nat_tests)

kind_known : (kind : ℕ) → (ltb kind 1 || ltb 8 kind) ≡ false → eqb kind 1 ≡ false → (2 ≤ kind) × (kind ≤ 8)
kind_known kind e ne = (grind (arith, nat_tests), grind (arith, nat_tests))

no_body : (b : Bool) (f : Frame) (n : ℕ) → cond b (bad BadLength) more ≡ whole f n → ⊥
no_body true f n e = cc
no_body false f n e = cc

sized_seen : (size : ℕ) (rest : List ℕ) (frame : Frame) (used : ℕ) → AreBytes rest → sized_sight size rest ≡ whole frame used → (kind : ℕ) × (fields : List ℕ) × (rest ≡ kind ∷ fields) × TakesBody size kind fields frame used
unfolding sized_sight
sized_seen size [] frame used h e = absurd (no_body _ frame used e)
sized_seen size (kind ∷ fields) frame used h e =
    let p = kind_passed (is_no_length size) (ltb kind 1 || ltb 8 kind) (cond (eqb kind 1) (piece_sight size fields) (fixed_sight size kind fields)) frame used e in
    let later = AreBytes-drop 1 (kind ∷ fields) h in (
      kind,
      fields,
      refl,
      elim (kind_chosen (eqb kind 1) (piece_sight size fields) (fixed_sight size kind fields) (whole frame used) p.2) [
        | inl c ↦ subst (λ (k : ℕ). TakesBody size k fields frame used) (sym (eqb-true _ _ c.0)) (piece_seen size fields frame used later (length_known size p.0) c.1)
        | inr c ↦ fixed_seen size kind fields frame used later (kind_known kind p.1 c.0).0 (kind_known kind p.1 c.0).1 c.1
      ],
    )

-- the frame's spelling is the first used bytes
pub record Takes (bytes : List ℕ) (frame : Frame) (used : ℕ) : Type 0 where
  pub fits : IsFrame frame
  pub split : bytes ≡ spelling frame ++ drop used bytes
  pub taken : used ≡ length (spelling frame)

begun : (b : Bool) (x : Sight) (f : Frame) (n : ℕ) → cond b more x ≡ whole f n → (b ≡ false) × (x ≡ whole f n)
begun true x f n e = absurd cc
begun false x f n e = (refl, e)

body_split : (size kind : ℕ) (fields : List ℕ) (frame : Frame) (used : ℕ) → TakesBody size kind fields frame used → (kind ∷ fields ≡ body frame ++ drop size (kind ∷ fields)) × (length (body frame) ≡ size)
body_split size kind fields frame used t =
    let up : size ≡ suc (size - 1) = omega (arith, t.some) in
    let one : take size (kind ∷ fields) ≡ body frame = ap (λ (n : ℕ). take n (kind ∷ fields)) up ∙ sym t.body in (
      sym (take-append-drop size (kind ∷ fields)) ∙ ap (λ (x : List ℕ). x ++ drop size (kind ∷ fields)) one,
      omega (arith, ap length one, length-take size (kind ∷ fields), t.long),
    )

pub seen_takes : (bytes : List ℕ) (frame : Frame) (used : ℕ) → AreBytes bytes → sight bytes ≡ whole frame used → Takes bytes frame used
unfolding sight spelling
seen_takes bytes frame used h e =
    let p = begun (ltb (length bytes) 4) (sized_sight (number w32 0 bytes) (drop 4 bytes)) frame used e in
    let long : 4 ≤ length bytes = ltb-false _ _ p.0 in
    let s = sized_seen (number w32 0 bytes) (drop 4 bytes) frame used (AreBytes-drop 4 bytes h) p.1 in
    let size = number w32 0 bytes in
    let b = body_split size s.0 s.1 frame used s.3 in
    let rest : drop 4 bytes ≡ body frame ++ drop size (drop 4 bytes) = s.2 ∙ b.0 ∙ ap (λ (t : List ℕ). body frame ++ drop size t) (sym s.2) in
    let later : drop size (drop 4 bytes) ≡ drop used bytes = drop-drop size 4 bytes ∙ ap (λ (n : ℕ). drop n bytes) (sym s.3.taken) in
    let head : u32 (length (body frame)) ≡ take 4 bytes = ap (λ (n : ℕ). u32 n) b.1 ∙ text_of bytes _ 4 (number_32_stands 0 bytes long h) in
    let whole-is : bytes ≡ u32 (length (body frame)) ++ (body frame ++ drop used bytes) = sym (take-append-drop 4 bytes) ∙ ap (λ (t : List ℕ). t ++ drop 4 bytes) (sym head) ∙ ap (λ (t : List ℕ). u32 (length (body frame)) ++ t) (rest ∙ ap (λ (t : List ℕ). body frame ++ t) later) in
    record {
      fits = s.3.fits;
      split = whole-is ∙ sym (append_assoc (u32 (length (body frame))) (body frame) (drop used bytes));
      taken = s.3.taken ∙ ap (λ (n : ℕ). 4 + n) (sym b.1) ∙ sym (length-append (u32 (length (body frame))) (body frame));
    }
