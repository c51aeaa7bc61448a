-- Bytes that grow by texts.
use Rattle.std.proofs.Common.{◌≡◌, ℕ, suc, ◌+◌, List, [], ◌∷◌, ◌++◌, map, append_assoc, ap, ◌∙◌, refl, sym, arith}
use Rattle.std.specs.Int.{Width, byte_len, bytes_high_first, w16, w32, w64, w128}
use Rattle.std.specs.List.{flat_map}
use Rattle.std.proofs.lemmas.List.{map-append}
use Rattle.mls_model.specs.Numbers.{below}
use Rattle.mls_model.specs.CellSums.{CellSums}
use Rattle.mls_ckpt.specs.Reading.{spelled, text, texts}
use Rattle.mls_ckpt.specs.CellParts.{powers_text, extrema_text, cell_text}
use Rattle.mls_ckpt.proofs.Steps.{texts-append}
use Rattle.mls_field.specs.PutBytes.{Grown}
use Rattle.std.specs.Prelude.{Result, Ok, Err, OnOk}

pub number_put : (w : Width) (n : ℕ) (old new : List ℕ) → new ≡ old ++ spelled w n → Grown old new (text w n)
number_put w n old new e rest = ap (λ (bytes : List ℕ). bytes ++ rest) e ∙ append_assoc old (spelled w n) rest

-- bytes that spell the numbers of a list, one after the other, are their texts
pub row_put : (w : Width) (xs : List ℕ) (old new : List ℕ) → new ≡ old ++ flat_map (bytes_high_first (byte_len w)) xs → Grown old new (texts (text w) xs)
unfolding spelled
row_put w xs old new e rest = ap (λ (bytes : List ℕ). bytes ++ rest) e ∙ append_assoc old (flat_map (bytes_high_first (byte_len w)) xs) rest ∙ ap (λ (bytes : List ℕ). old ++ bytes) (row xs)
  where
    row : (xs : List ℕ) → flat_map (bytes_high_first (byte_len w)) xs ++ rest ≡ texts (text w) xs rest
    row [] = refl
    row (x ∷ xs) = append_assoc (bytes_high_first (byte_len w) x) (flat_map (bytes_high_first (byte_len w)) xs) rest ∙ ap (λ (bytes : List ℕ). bytes_high_first (byte_len w) x ++ bytes) (row xs)

-- one more value by its place
pub below_put : {A : Type 0} (write : A → List ℕ → List ℕ) (f : ℕ → A) (n : ℕ) (start old new : List ℕ) → Grown start old (texts write (map f (below n))) → Grown old new (write (f n)) → Grown start new (texts write (map f (below (n + 1))))
below_put write f n start old new before more rest =
    more rest ∙ (before (write (f n) rest) ∙ (ap (λ bytes. start ++ bytes) (sym (texts-append write (map f (below n)) (f n ∷ []) rest)) ∙
    (ap (λ xs. start ++ texts write xs rest) (sym (map-append f (below n) (n ∷ []))) ∙ ap (λ m. start ++ texts write (map f (below m)) rest) (let e : suc n ≡ n + 1 = omega arith in e))))

-- the text of a cell
pub cell_put : (c : CellSums) (p1 p2 p3 p4 least greatest : ℕ) (above products o0 o1 o2 o3 o4 : List ℕ)
    → p1 ≡ c.p1 → p2 ≡ c.p2 → p3 ≡ c.p3 → p4 ≡ c.p4 → least ≡ c.least → greatest ≡ c.greatest → above ≡ c.above → products ≡ c.products
    → Grown o0 o1 (λ rest. text w64 p1 (text w64 p2 (text w128 p3 (text w128 p4 rest)))) → Grown o1 o2 (λ rest. text w16 least (text w16 greatest rest)) → Grown o2 o3 (texts (text w32) above) → Grown o3 o4 (texts (text w64) products)
    → Grown o0 o4 (cell_text c)
unfolding cell_text powers_text extrema_text
cell_put c p1 p2 p3 p4 least greatest above products o0 o1 o2 o3 o4 e1 e2 e3 e4 e5 e6 e7 e8 s1 s2 s3 s4 rest =
    s4 rest ∙ (s3 _ ∙ (s2 _ ∙ (s1 _ ∙
    (λ i. o0 ++ text w64 (e1 i) (text w64 (e2 i) (text w128 (e3 i) (text w128 (e4 i) (text w16 (e5 i) (text w16 (e6 i) (texts (text w32) (e7 i) (texts (text w64) (e8 i) rest)))))))))))

-- what follows where an answer is Ok
pub on_ok : {T E P Q : Type 0} (answer : Result T E) → (P → Q) → OnOk answer P → OnOk answer Q
on_ok (Ok value) implies is = implies is
on_ok (Err fault) implies is = is
