-- The sums of a cell are read again, and what is read is valid and spelled.
use Rattle.std.proofs.Common.{◌≡◌, ℕ, ◌+◌, ◌*◌, ◌<◌, ◌≤◌, ◌==◌, ◌||◌, ◌&&◌, not, true, false, Bool, cond, List, [], ◌∷◌, ◌++◌, length, slice_index, nat_le, append_assoc, Ok, refl, sym, ap, subst, ◌∙◌, arith}
use Rattle.std.specs.Int.{Width, w16, w32, w64, w128}
use Rattle.mls_model.specs.CellSums.{CellSums}
use Rattle.mls_model.specs.Numbers.{joined}
use Rattle.mls_model.specs.Studies.{Sizes, planes}
use Rattle.mls_model.specs.Blocks.{block, width}
use Rattle.mls_ckpt.specs.Reading.{Cursor, rule, number_at, text, texts, AllFrom, AreBytes}
use Rattle.mls_ckpt.specs.States.{after_one}
use Rattle.mls_ckpt.specs.CellParts.{Powers, Totals, ArePowers, AreExtrema, AreTotals, AreProducts, IsColumn, IsCell, IsPlane, AreCells, IsSumsPart, powers_text, extrema_text, cell_text, cells_text, powers_at, extrema_at, above_at, totals_at, column_at, columns_at, cell_at, plane_at, cells_at, part_at, are_extrema, are_products, spread_in, covariance_in, most_after}
use Rattle.mls_ckpt.specs.Laws.{IsReadPart, IsPartIn}
use Rattle.mls_ckpt.proofs.Numbers.{Taken, IsRead, same_ok, number_again, number_taken}
use Rattle.mls_ckpt.proofs.Steps.{both, passed, many_again, many_taken, all_from, texts-joined, texts-front, text-front, row-front, row_again, row_taken}
use Rattle.mls_ckpt.proofs.Passing.{le_of, of_le, same_of, of_same, both_of, of_both, not_none}

abbrev powers_in : Powers → List ℕ → List ℕ
powers_in p rest = text w64 p.p1 (text w64 p.p2 (text w128 p.p3 (text w128 p.p4 rest)))

pub powers_again : (n : ℕ) (p : Powers) → n ≤ 65535 → ArePowers n p.p1 p.p2 p.p3 p.p4 → (at : ℕ) (rest : List ℕ) → (place : ℕ) × (powers_at n (record { at = at; left = powers_in p rest }) ≡ Ok (p, record { at = place; left = rest }))
unfolding powers_at
powers_again n p few valid at rest =
    let below_4 = text w128 p.p4 rest in
    let below_3 = text w128 p.p3 below_4 in
    let below_2 = text w64 p.p2 below_3 in
    let first = valid.first in
    let second = valid.second in
    let third = valid.third in
    let fourth = valid.fourth in
    let e1 = number_again w64 (65535 * (2 * n)) p.p1 at below_2 (omega arith) first in
    let e2 = number_again w64 (65535 * p.p1) p.p2 (at + 8) below_3 (omega arith) second in
    let spread = of_le (p.p1 * p.p1) (2 * n * p.p2) valid.spread in
    let e3 = number_again w128 (65535 * p.p2) p.p3 (at + 8 + 8) below_4 (omega arith) third in
    let e4 = number_again w128 (65535 * p.p3) p.p4 (at + 8 + 8 + 16) rest (omega arith) fourth in
    (at + 8 + 8 + 16 + 16, rw (e1, e2, spread, e3, e4) refl)

pub powers_taken : (n : ℕ) (c : Cursor) (r : Powers × Cursor) → AreBytes c.left → powers_at n c ≡ Ok r → Taken (ArePowers n r.0.p1 r.0.p2 r.0.p3 r.0.p4) (powers_in r.0) c r.1
unfolding powers_at
powers_taken n c r bytes e =
    let a = both (number_at w64 (65535 * (2 * n)) c) _ r e in
    let p1 = number_taken w64 (65535 * (2 * n)) c a.0 bytes a.1 in
    let b = both (number_at w64 (65535 * a.0.0) a.0.1) _ r a.2 in
    let p2 = number_taken w64 (65535 * a.0.0) a.0.1 b.0 p1.bytes b.1 in
    let t = both (rule (nat_le (a.0.0 * a.0.0) (2 * n * b.0.0)) a.0.1.at) _ r b.2 in
    let spread = le_of _ _ (passed _ _ _ t.0 t.1) in
    let d = both (number_at w128 (65535 * b.0.0) b.0.1) _ r t.2 in
    let p3 = number_taken w128 (65535 * b.0.0) b.0.1 d.0 p2.bytes d.1 in
    let f = both (number_at w128 (65535 * d.0.0) d.0.1) _ r d.2 in
    let p4 = number_taken w128 (65535 * d.0.0) d.0.1 f.0 p3.bytes f.1 in
    subst (λ (p : Powers × Cursor). Taken (ArePowers n p.0.p1 p.0.p2 p.0.p3 p.0.p4) (powers_in p.0) c p.1) (same_ok _ r f.2)
    (record {
      valid = record { first = p1.valid.few; second = p2.valid.few; spread = spread; third = p3.valid.few; fourth = p4.valid.few };
      stands = p1.stands ∙ ap (text w64 a.0.0) (p2.stands ∙ ap (text w64 b.0.0) (p3.stands ∙ ap (text w128 d.0.0) p4.stands));
      bytes = p4.bytes;
    })

-- the test of the extrema
extrema_pass : (b : Bool) (n least greatest : ℕ) → (n == 0) ≡ b → AreExtrema n least greatest → cond b ((least == 65535) && (greatest == 0)) (nat_le least greatest) ≡ true
extrema_pass true n least greatest is valid = of_both _ _ (of_same _ _ (valid.none_least (same_of n 0 is))) (of_same _ _ (valid.none_greatest (same_of n 0 is)))
extrema_pass false n least greatest is valid = of_le _ _ (valid.some (not_none n is))

record Ends (n least greatest : ℕ) : Type 0 where
  none_least : n ≡ 0 → least ≡ 65535
  none_greatest : n ≡ 0 → greatest ≡ 0
  some : 1 ≤ n → least ≤ greatest

extrema_passed : (b : Bool) (n least greatest : ℕ) → (n == 0) ≡ b → cond b ((least == 65535) && (greatest == 0)) (nat_le least greatest) ≡ true → Ends n least greatest
extrema_passed true n least greatest is pass =
    let parts = both_of (least == 65535) (greatest == 0) pass in
    let none : n ≡ 0 = same_of n 0 is in
    record { none_least = λ z. same_of _ _ parts.0; none_greatest = λ z. same_of _ _ parts.1; some = λ some. absurd (omega arith) }
extrema_passed false n least greatest is pass =
    let some = not_none n is in
    record { none_least = λ z. absurd (omega arith); none_greatest = λ z. absurd (omega arith); some = λ many. le_of _ _ pass }

abbrev extrema_in : ℕ × ℕ → List ℕ → List ℕ
extrema_in e rest = text w16 e.0 (text w16 e.1 rest)

extrema_again : (n : ℕ) (e : ℕ × ℕ) → AreExtrema n e.0 e.1 → (at : ℕ) (rest : List ℕ) → (place : ℕ) × (extrema_at n (record { at = at; left = extrema_in e rest }) ≡ Ok (e, record { at = place; left = rest }))
unfolding extrema_at
extrema_again n e valid at rest =
    let least_fits = valid.least_fits in
    let greatest_fits = valid.greatest_fits in
    let e1 = number_again w16 65535 e.0 at (text w16 e.1 rest) (omega arith) least_fits in
    let e2 = number_again w16 65535 e.1 (at + 2) rest (omega arith) greatest_fits in
    let ordered : are_extrema n e.0 e.1 ≡ true = extrema_pass (n == 0) n e.0 e.1 refl valid in
    (at + 2 + 2, rw (e1, e2, ordered) refl)

extrema_taken : (n : ℕ) (c : Cursor) (r : (ℕ × ℕ) × Cursor) → AreBytes c.left → extrema_at n c ≡ Ok r → Taken (AreExtrema n r.0.0 r.0.1) (extrema_in r.0) c r.1
unfolding extrema_at
extrema_taken n c r bytes e =
    let a = both (number_at w16 65535 c) _ r e in
    let least = number_taken w16 65535 c a.0 bytes a.1 in
    let b = both (number_at w16 65535 a.0.1) _ r a.2 in
    let greatest = number_taken w16 65535 a.0.1 b.0 least.bytes b.1 in
    let t = both (rule (are_extrema n a.0.0 b.0.0) c.at) _ r b.2 in
    let ends = extrema_passed (n == 0) n a.0.0 b.0.0 refl (passed _ _ _ t.0 t.1) in
    subst (λ (p : (ℕ × ℕ) × Cursor). Taken (AreExtrema n p.0.0 p.0.1) (extrema_in p.0) c p.1) (same_ok _ r t.2)
    (record {
      valid = record { least_fits = least.valid.few; greatest_fits = greatest.valid.few; none_least = ends.none_least; none_greatest = ends.none_greatest; some = ends.some };
      stands = least.stands ∙ ap (text w16 a.0.0) greatest.stands;
      bytes = greatest.bytes;
    })

abbrev AreAbove : ℕ → List ℕ → Type 0
AreAbove most values = AllFrom (λ m number. number ≤ m) most_after most values

above_fit : (values : List ℕ) (most : ℕ) → most < 4294967296 → AreAbove most values → AllFrom (λ m number. IsRead w32 m number) most_after most values
above_fit [] most few each = tt
above_fit (x ∷ values) most few each =
    let here = each.0 in
    (record { fits = omega arith; few = here }, above_fit values x (omega arith) each.1)

above_again : (n : ℕ) (values : List ℕ) → n ≤ 65535 → AreAbove (2 * n) values → (at : ℕ) (rest : List ℕ) → (place : ℕ) × (above_at n (length values) (record { at = at; left = texts (text w32) values rest }) ≡ Ok (values, record { at = place; left = rest }))
unfolding above_at
above_again n values few valid at rest = row_again w32 (λ m. m) most_after values (2 * n) (above_fit values (2 * n) (omega arith) valid) at rest

above_taken : (n thresholds : ℕ) (c : Cursor) (r : List ℕ × Cursor) → AreBytes c.left → above_at n thresholds c ≡ Ok r → Taken ((length r.0 ≡ thresholds) × AreAbove (2 * n) r.0) (texts (text w32) r.0) c r.1
unfolding above_at
above_taken n thresholds c r bytes e =
    let read = row_taken w32 (λ m. m) most_after thresholds (2 * n) c r bytes e in
    record { valid = (read.valid.0, all_from (λ m number. IsRead w32 m number) (λ m number. number ≤ m) most_after (λ m number is. is.few) r.0 (2 * n) read.valid.1); stands = read.stands; bytes = read.bytes }

abbrev totals_in : Totals → List ℕ → List ℕ
totals_in t rest = text w64 t.a (text w64 t.b (text w64 t.aa (text w64 t.bb rest)))

totals_again : (n : ℕ) (p : Powers) (t : Totals) → n ≤ 65535 → AreTotals n p.p1 p.p2 t → (at : ℕ) (rest : List ℕ) → (place : ℕ) × (totals_at n p (record { at = at; left = totals_in t rest }) ≡ Ok (t, record { at = place; left = rest }))
unfolding totals_at
totals_again n p t few valid at rest =
    let below_bb = text w64 t.bb rest in
    let below_aa = text w64 t.aa below_bb in
    let below_b = text w64 t.b below_aa in
    let a_in = valid.a in
    let b_in = valid.b in
    let aa_in = valid.aa in
    let bb_in = valid.bb in
    let e1 = number_again w64 (65535 * n) t.a at below_b (omega arith) a_in in
    let e2 = number_again w64 (65535 * n) t.b (at + 8) below_aa (omega arith) b_in in
    let firsts = of_same p.p1 (t.a + t.b) valid.firsts in
    let e3 = number_again w64 (65535 * t.a) t.aa (at + 8 + 8) below_bb (omega arith) aa_in in
    let spread_a = of_le (t.a * t.a) (n * t.aa) valid.spread_a in
    let e4 = number_again w64 (65535 * t.b) t.bb (at + 8 + 8 + 8) rest (omega arith) bb_in in
    let spread_b = of_le (t.b * t.b) (n * t.bb) valid.spread_b in
    let seconds = of_same p.p2 (t.aa + t.bb) valid.seconds in
    (at + 8 + 8 + 8 + 8, rw (e1, e2, firsts, e3, spread_a, e4, spread_b, seconds) refl)

totals_taken : (n : ℕ) (p : Powers) (c : Cursor) (r : Totals × Cursor) → AreBytes c.left → totals_at n p c ≡ Ok r → Taken (AreTotals n p.p1 p.p2 r.0) (totals_in r.0) c r.1
unfolding totals_at
totals_taken n p c r bytes e =
    let a = both (number_at w64 (65535 * n) c) _ r e in
    let read_a = number_taken w64 (65535 * n) c a.0 bytes a.1 in
    let b = both (number_at w64 (65535 * n) a.0.1) _ r a.2 in
    let read_b = number_taken w64 (65535 * n) a.0.1 b.0 read_a.bytes b.1 in
    let t1 = both (rule (p.p1 == a.0.0 + b.0.0) c.at) _ r b.2 in
    let aa = both (number_at w64 (65535 * a.0.0) b.0.1) _ r t1.2 in
    let read_aa = number_taken w64 (65535 * a.0.0) b.0.1 aa.0 read_b.bytes aa.1 in
    let t2 = both (rule (nat_le (a.0.0 * a.0.0) (n * aa.0.0)) b.0.1.at) _ r aa.2 in
    let bb = both (number_at w64 (65535 * b.0.0) aa.0.1) _ r t2.2 in
    let read_bb = number_taken w64 (65535 * b.0.0) aa.0.1 bb.0 read_aa.bytes bb.1 in
    let t3 = both (rule (nat_le (b.0.0 * b.0.0) (n * bb.0.0)) aa.0.1.at) _ r bb.2 in
    let t4 = both (rule (p.p2 == aa.0.0 + bb.0.0) b.0.1.at) _ r t3.2 in
    subst (λ (q : Totals × Cursor). Taken (AreTotals n p.p1 p.p2 q.0) (totals_in q.0) c q.1) (same_ok _ r t4.2)
    (record {
      valid = record {
        a = read_a.valid.few;
        b = read_b.valid.few;
        firsts = same_of _ _ (passed _ _ _ t1.0 t1.1);
        aa = read_aa.valid.few;
        spread_a = le_of _ _ (passed _ _ _ t2.0 t2.1);
        bb = read_bb.valid.few;
        spread_b = le_of _ _ (passed _ _ _ t3.0 t3.1);
        seconds = same_of _ _ (passed _ _ _ t4.0 t4.1);
      };
      stands = read_a.stands ∙ ap (text w64 a.0.0) (read_b.stands ∙ ap (text w64 b.0.0) (read_aa.stands ∙ ap (text w64 aa.0.0) read_bb.stands));
      bytes = read_bb.bytes;
    })

abbrev column_in : List ℕ → List ℕ → List ℕ
column_in column rest = texts (text w64) column rest

-- the test of a sum of products
products_pass : (n x xx y yy xy : ℕ) (b : Bool) → (n == 0) ≡ b → AreProducts n x xx y yy xy → ((not b || (xy == 0)) && nat_le (covariance_in n x y xy * covariance_in n x y xy) (spread_in n x xx * spread_in n y yy)) ≡ true
products_pass n x xx y yy xy true is valid = of_both (xy == 0) _ (of_same xy 0 (valid.none (same_of n 0 is))) (of_le _ _ valid.within)
products_pass n x xx y yy xy false is valid = of_le _ _ valid.within

products_passed : (n x xx y yy xy : ℕ) (b : Bool) → (n == 0) ≡ b → xy ≤ 18446744073709551615 → ((not b || (xy == 0)) && nat_le (covariance_in n x y xy * covariance_in n x y xy) (spread_in n x xx * spread_in n y yy)) ≡ true → AreProducts n x xx y yy xy
products_passed n x xx y yy xy true is fits pass =
    let parts = both_of (xy == 0) (nat_le (covariance_in n x y xy * covariance_in n x y xy) (spread_in n x xx * spread_in n y yy)) pass in
    record { fits = fits; none = λ z. same_of xy 0 parts.0; within = le_of _ _ parts.1 }
products_passed n x xx y yy xy false is fits pass =
    let some = not_none n is in
    record { fits = fits; none = λ z. absurd (omega arith); within = le_of _ _ pass }

abbrev ReadsColumn : ℕ → Totals → List ℕ → Type 0
ReadsColumn n t column = (at : ℕ) (rest : List ℕ) → (place : ℕ) × (column_at n t (record { at = at; left = column_in column rest }) ≡ Ok (column, record { at = place; left = rest }))

column_again : (n : ℕ) (t : Totals) (column : List ℕ) → n ≤ 65535 → IsColumn n t column → ReadsColumn n t column
unfolding column_at
column_again n t column few valid =
    subst (ReadsColumn n t) (sym valid.is) (λ at rest.
    let x = valid.x in
    let xx = valid.xx in
    let ax = valid.ax in
    let bx = valid.bx in
    let below_ax = text w64 bx rest in
    let below_xx = text w64 ax below_ax in
    let below_x = text w64 xx below_xx in
    let x_in : x ≤ 65535 * n = valid.first in
    let xx_in : xx ≤ 65535 * x = valid.second in
    let ax_in : ax ≤ 18446744073709551615 = valid.with_a.fits in
    let bx_in : bx ≤ 18446744073709551615 = valid.with_b.fits in
    let e1 = number_again w64 (65535 * n) x at below_x (omega arith) x_in in
    let e2 = number_again w64 (65535 * x) xx (at + 8) below_xx (omega arith) xx_in in
    let spread = of_le (x * x) (n * xx) valid.spread in
    let e3 = number_again w64 18446744073709551615 ax (at + 8 + 8) below_ax (omega arith) ax_in in
    let with_a : are_products n t.a t.aa x xx ax ≡ true = products_pass n t.a t.aa x xx ax (n == 0) refl valid.with_a in
    let e4 = number_again w64 18446744073709551615 bx (at + 8 + 8 + 8) rest (omega arith) bx_in in
    let with_b : are_products n t.b t.bb x xx bx ≡ true = products_pass n t.b t.bb x xx bx (n == 0) refl valid.with_b in
    (at + 8 + 8 + 8 + 8, rw (e1, e2, spread, e3, with_a, e4, with_b) refl))

column_taken : (n : ℕ) (t : Totals) (c : Cursor) (r : List ℕ × Cursor) → AreBytes c.left → column_at n t c ≡ Ok r → Taken (IsColumn n t r.0) (column_in r.0) c r.1
unfolding column_at
column_taken n t c r bytes e =
    let x = both (number_at w64 (65535 * n) c) _ r e in
    let read_x = number_taken w64 (65535 * n) c x.0 bytes x.1 in
    let xx = both (number_at w64 (65535 * x.0.0) x.0.1) _ r x.2 in
    let read_xx = number_taken w64 (65535 * x.0.0) x.0.1 xx.0 read_x.bytes xx.1 in
    let t1 = both (rule (nat_le (x.0.0 * x.0.0) (n * xx.0.0)) x.0.1.at) _ r xx.2 in
    let ax = both (number_at w64 18446744073709551615 xx.0.1) _ r t1.2 in
    let read_ax = number_taken w64 18446744073709551615 xx.0.1 ax.0 read_xx.bytes ax.1 in
    let t2 = both (rule (are_products n t.a t.aa x.0.0 xx.0.0 ax.0.0) xx.0.1.at) _ r ax.2 in
    let bx = both (number_at w64 18446744073709551615 ax.0.1) _ r t2.2 in
    let read_bx = number_taken w64 18446744073709551615 ax.0.1 bx.0 read_ax.bytes bx.1 in
    let t3 = both (rule (are_products n t.b t.bb x.0.0 xx.0.0 bx.0.0) ax.0.1.at) _ r bx.2 in
    subst (λ (q : List ℕ × Cursor). Taken (IsColumn n t q.0) (column_in q.0) c q.1) (same_ok _ r t3.2)
    (record {
      valid = record {
        x = x.0.0;
        xx = xx.0.0;
        ax = ax.0.0;
        bx = bx.0.0;
        is = refl;
        first = read_x.valid.few;
        second = read_xx.valid.few;
        spread = le_of _ _ (passed _ _ _ t1.0 t1.1);
        with_a = products_passed n t.a t.aa x.0.0 xx.0.0 ax.0.0 (n == 0) refl read_ax.valid.few (passed _ _ _ t2.0 t2.1);
        with_b = products_passed n t.b t.bb x.0.0 xx.0.0 bx.0.0 (n == 0) refl read_bx.valid.few (passed _ _ _ t3.0 t3.1);
      };
      stands = read_x.stands ∙ ap (text w64 x.0.0) (read_xx.stands ∙ ap (text w64 xx.0.0) (read_ax.stands ∙ ap (text w64 ax.0.0) read_bx.stands));
      bytes = read_bx.bytes;
    })

columns_again : (n : ℕ) (t : Totals) (columns : List (List ℕ)) → n ≤ 65535 → AllFrom (λ i column. IsColumn n t column) after_one 0 columns → (at : ℕ) (rest : List ℕ) → (place : ℕ) × (columns_at n t (length columns) (record { at = at; left = texts column_in columns rest }) ≡ Ok (columns, record { at = place; left = rest }))
unfolding columns_at
columns_again n t columns few valid at rest =
    many_again column_in (λ i column. IsColumn n t column) (λ i from. column_at n t from) after_one (λ i column is. column_again n t column few is) columns 0 valid at rest

columns_taken : (n : ℕ) (t : Totals) (parameters : ℕ) (c : Cursor) (r : List (List ℕ) × Cursor) → AreBytes c.left → columns_at n t parameters c ≡ Ok r → Taken ((length r.0 ≡ parameters) × AllFrom (λ i column. IsColumn n t column) after_one 0 r.0) (texts column_in r.0) c r.1
unfolding columns_at
columns_taken n t parameters c r bytes e =
    many_taken column_in (λ i column. IsColumn n t column) (λ i from. column_at n t from) after_one (λ i c r bytes e. column_taken n t c r bytes e) parameters 0 c r bytes e

-- a cell whose rows and products are these
abbrev with_products : CellSums → ℕ → List ℕ → CellSums
with_products sums n products = record sums { rows = n; products = products }

abbrev all_products : Totals → List (List ℕ) → List ℕ
all_products t columns = t.a ∷ t.b ∷ t.aa ∷ t.bb ∷ joined columns

abbrev ReadsCell : Sizes → ℕ → CellSums → Type 0
ReadsCell s n sums = (at : ℕ) (rest : List ℕ) → (place : ℕ) × (cell_at s n (record { at = at; left = cell_text sums rest }) ≡ Ok (sums, record { at = place; left = rest }))

cell_again : (s : Sizes) (n : ℕ) (sums : CellSums) → n ≤ 65535 → IsCell s n sums → ReadsCell s n sums
unfolding cell_at cell_text powers_text extrema_text
cell_again s n sums few valid =
    let t = valid.totals in
    let columns = valid.columns in
    let p : Powers = record { p1 = sums.p1; p2 = sums.p2; p3 = sums.p3; p4 = sums.p4 } in
    let known : ReadsCell s n (with_products sums n (all_products t columns)) = λ at rest.
    let row : texts (text w64) (joined columns) rest ≡ texts column_in columns rest = texts-joined (text w64) columns rest in
    let below_totals = texts column_in columns rest in
    let below_above = totals_in t below_totals in
    let below_extrema = texts (text w32) sums.above below_above in
    let below_powers = extrema_in (sums.least, sums.greatest) below_extrema in
    let e1 = powers_again n p few valid.powers at below_powers in
    let e2 = extrema_again n (sums.least, sums.greatest) valid.extrema e1.0 below_extrema in
    let e3 = above_again n sums.above few valid.above e2.0 below_above in
    let e4 = totals_again n p t few valid.first e3.0 below_totals in
    let e5 = columns_again n t columns few valid.each e4.0 rest in
    (e5.0, rw (row, sym valid.thresholds, sym valid.parameters, e1.1, e2.1, e3.1, e4.1, e5.1) refl) in
    subst (λ (products : List ℕ). ReadsCell s n (with_products sums sums.rows products)) (sym valid.products)
    (subst (λ (rows : ℕ). ReadsCell s n (with_products sums rows (all_products t columns))) (sym valid.rows) known)

cell_taken : (s : Sizes) (n : ℕ) (c : Cursor) (r : CellSums × Cursor) → AreBytes c.left → cell_at s n c ≡ Ok r → Taken (IsCell s n r.0) (cell_text r.0) c r.1
unfolding cell_at cell_text powers_text extrema_text
cell_taken s n c r bytes e =
    let p = both (powers_at n c) _ r e in
    let powers = powers_taken n c p.0 bytes p.1 in
    let x = both (extrema_at n p.0.1) _ r p.2 in
    let extrema = extrema_taken n p.0.1 x.0 powers.bytes x.1 in
    let h = both (above_at n (length s.thresholds) x.0.1) _ r x.2 in
    let above = above_taken n (length s.thresholds) x.0.1 h.0 extrema.bytes h.1 in
    let t = both (totals_at n p.0.0 h.0.1) _ r h.2 in
    let totals = totals_taken n p.0.0 h.0.1 t.0 above.bytes t.1 in
    let k = both (columns_at n t.0.0 s.parameters t.0.1) _ r t.2 in
    let columns = columns_taken n t.0.0 s.parameters t.0.1 k.0 totals.bytes k.1 in
    let row = texts-joined (text w64) k.0.0 k.0.1.left in
    subst (λ (q : CellSums × Cursor). Taken (IsCell s n q.0) (cell_text q.0) c q.1) (same_ok _ r k.2)
    (record {
      valid = record {
        rows = refl;
        powers = powers.valid;
        extrema = extrema.valid;
        thresholds = above.valid.0;
        above = above.valid.1;
        totals = t.0.0;
        columns = k.0.0;
        products = refl;
        first = totals.valid;
        parameters = columns.valid.0;
        each = columns.valid.1;
      };
      stands = powers.stands ∙ ap (powers_in p.0.0) (extrema.stands ∙ ap (extrema_in x.0.0) (above.stands ∙ ap (texts (text w32) h.0.0) (totals.stands ∙ ap (totals_in t.0.0) (columns.stands ∙ sym row))));
      bytes = columns.bytes;
    })

-- a plane's cells, all cells, and the part
plane_again : (s : Sizes) (rank n : ℕ) (cells : List CellSums) → n ≤ 65535 → IsPlane s rank n cells → (at : ℕ) (rest : List ℕ) → (place : ℕ) × (plane_at s rank n (record { at = at; left = texts cell_text cells rest }) ≡ Ok (cells, record { at = place; left = rest }))
unfolding plane_at
plane_again s rank n cells few valid at rest =
    let all = many_again cell_text (λ i sums. IsCell s n sums) (λ i from. cell_at s n from) after_one (λ i sums is. cell_again s n sums few is) cells 0 valid.each at rest in
    (all.0, rw (sym valid.size) all.1)

plane_taken : (s : Sizes) (rank n : ℕ) (c : Cursor) (r : List CellSums × Cursor) → AreBytes c.left → plane_at s rank n c ≡ Ok r → Taken (IsPlane s rank n r.0) (texts cell_text r.0) c r.1
unfolding plane_at
plane_taken s rank n c r bytes e =
    let all = many_taken cell_text (λ i sums. IsCell s n sums) (λ i from. cell_at s n from) after_one (λ i c r bytes e. cell_taken s n c r bytes e) (width (block s rank)) 0 c r bytes e in
    record { valid = record { size = all.valid.0; each = all.valid.1 }; stands = all.stands; bytes = all.bytes }

pub cells_again : (s : Sizes) (rank : ℕ) (marks : List ℕ) (cells : List (List CellSums)) → ((i : ℕ) → slice_index marks i ≤ 65535) → AreCells s rank marks cells → (at : ℕ) (rest : List ℕ) → (place : ℕ) × (cells_at s rank marks (record { at = at; left = cells_text cells rest }) ≡ Ok (cells, record { at = place; left = rest }))
unfolding cells_at cells_text
cells_again s rank marks cells few valid at rest =
    let all = many_again (texts cell_text) (λ plane row. IsPlane s rank (slice_index marks plane) row) (λ plane from. plane_at s rank (slice_index marks plane) from) after_one (λ plane row is. plane_again s rank (slice_index marks plane) row (few plane) is) cells 0 valid.each at rest in
    (all.0, rw (sym valid.size) all.1)

pub cells_taken : (s : Sizes) (rank : ℕ) (marks : List ℕ) (c : Cursor) (r : List (List CellSums) × Cursor) → AreBytes c.left → cells_at s rank marks c ≡ Ok r → Taken (AreCells s rank marks r.0) (cells_text r.0) c r.1
unfolding cells_at cells_text
cells_taken s rank marks c r bytes e =
    let all = many_taken (texts cell_text) (λ plane row. IsPlane s rank (slice_index marks plane) row) (λ plane from. plane_at s rank (slice_index marks plane) from) after_one (λ plane c r bytes e. plane_taken s rank (slice_index marks plane) c r bytes e) (planes s) 0 c r bytes e in
    record { valid = record { size = all.valid.0; each = all.valid.1 }; stands = all.stands; bytes = all.bytes }

-- valid cells with one text are the same
pub cells_same : (s : Sizes) (rank : ℕ) (marks : List ℕ) (xs ys : List (List CellSums)) → ((i : ℕ) → slice_index marks i ≤ 65535) → AreCells s rank marks xs → AreCells s rank marks ys → cells_text xs [] ≡ cells_text ys [] → xs ≡ ys
cells_same s rank marks xs ys few xs_valid ys_valid same =
    let first = cells_again s rank marks xs few xs_valid 0 [] in
    let second = cells_again s rank marks ys few ys_valid 0 [] in
    let read = same_ok _ _ (sym first.1 ∙ (ap (λ (left : List ℕ). cells_at s rank marks (record { at = 0; left = left })) same ∙ second.1)) in
    ap (λ (r : List (List CellSums) × Cursor). r.0) read

-- a cell's text is that of no more before what follows
cell_text-front : (sums : CellSums) (rest : List ℕ) → cell_text sums rest ≡ cell_text sums [] ++ rest
unfolding cell_text powers_text extrema_text
cell_text-front sums rest =
    let numbers = texts-front (λ (n : Width × ℕ) (r : List ℕ). text n.0 n.1 r) (λ n r. text-front n.0 n.1 r) ((w64, sums.p1) ∷ (w64, sums.p2) ∷ (w128, sums.p3) ∷ (w128, sums.p4) ∷ (w16, sums.least) ∷ (w16, sums.greatest) ∷ []) in
    let products_0 = texts (text w64) sums.products [] in
    let above = row-front w32 sums.above (texts (text w64) sums.products rest) in
    let above_0 = row-front w32 sums.above products_0 in
    let products = row-front w64 sums.products rest in
    let tail : texts (text w32) sums.above (texts (text w64) sums.products rest) ≡ texts (text w32) sums.above products_0 ++ rest =
    above ∙ ap (λ r. texts (text w32) sums.above [] ++ r) products ∙ sym (append_assoc (texts (text w32) sums.above []) products_0 rest) ∙ ap (λ r. r ++ rest) (sym above_0) in
    numbers (texts (text w32) sums.above (texts (text w64) sums.products rest)) ∙ ap (λ r. texts (λ (n : Width × ℕ) (r : List ℕ). text n.0 n.1 r) ((w64, sums.p1) ∷ (w64, sums.p2) ∷ (w128, sums.p3) ∷ (w128, sums.p4) ∷ (w16, sums.least) ∷ (w16, sums.greatest) ∷ []) [] ++ r) tail
    ∙ sym (append_assoc _ (texts (text w32) sums.above products_0) rest) ∙ ap (λ r. r ++ rest) (sym (numbers (texts (text w32) sums.above products_0)))

-- the cells' text is that of no more before what follows
pub cells_text-front : (cells : List (List CellSums)) (rest : List ℕ) → cells_text cells rest ≡ cells_text cells [] ++ rest
unfolding cells_text
cells_text-front cells rest = texts-front (texts cell_text) (λ row rest. texts-front cell_text cell_text-front row rest) cells rest

pub sums_read_again : (s : Sizes) (rank : ℕ) (marks bytes : List ℕ) → ((i : ℕ) → slice_index marks i ≤ 65535) → IsSumsPart s rank marks bytes → IsReadPart part_at s rank marks bytes
unfolding part_at
sums_read_again s rank marks bytes few valid at rest =
    let read = cells_again s rank marks valid.cells few valid.valid at rest in
    let whole : cells_text valid.cells rest ≡ bytes ++ rest = cells_text-front valid.cells rest ∙ ap (λ b. b ++ rest) (sym valid.spelled) in
    (read.0, rw (sym whole, read.1) refl)

pub sums_are_spelled : (s : Sizes) (rank : ℕ) (marks : List ℕ) (old new : Cursor) → AreBytes old.left → part_at s rank marks old ≡ Ok new → IsPartIn (IsSumsPart s rank marks) old new
unfolding part_at
sums_are_spelled s rank marks old new bytes e =
    let read = both (cells_at s rank marks old) _ new e in
    let cells = cells_taken s rank marks old read.0 bytes read.1 in
    subst (λ (c : Cursor). IsPartIn (IsSumsPart s rank marks) old c) (same_ok _ new read.2)
    (record { bytes = cells_text read.0.0 []; stands = cells.stands ∙ cells_text-front read.0.0 read.0.1.left; valid = record { cells = read.0.0; valid = cells.valid; spelled = refl } })
