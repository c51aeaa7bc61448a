-- The least and the greatest of shifted values, and of the values that they are kept for.
use Rattle.std.proofs.Common.{◌≡◌, ℕ, ◌<◌, ◌≤◌, min, max, List, [], ◌∷◌, ◌++◌, length, map, Bool, true, false, cond, ℤ, pos, Option, Some, None, ap, ◌∙◌, refl, sym, subst, arith}
use Rattle.std.specs.Prelude.{int_lt, nat_lt, unsigned_abs}
use Rattle.std.specs.Option.{option_map, unwrap_or}
use Rattle.std.proofs.lemmas.Int.{ints}
use Rattle.std.proofs.lemmas.Bool.Decides.{nat_tests}
use Rattle.mls_model.specs.Samples.{unshifted}
use Rattle.mls_model.specs.Statistics.{least, most}
use Rattle.mls_power.specs.Rules.{AreExtrema}

-- values are in the order of the numbers that they are shifted to
pub order_kept : (signed : Bool) (a b : ℕ) → int_lt (unshifted signed a) (unshifted signed b) ≡ nat_lt a b
order_kept false a b = refl
order_kept true a b = grind (arith, ints, nat_tests)

-- the lesser and the greater of a number and another that there may be
abbrev pub lesser : ℕ → Option ℕ → ℕ
lesser w None = w
lesser w (Some m) = cond (nat_lt w m) w m

abbrev pub greater : ℕ → Option ℕ → ℕ
greater w None = w
greater w (Some m) = cond (nat_lt m w) w m

-- the least and the greatest number
abbrev pub lowest : List ℕ → Option ℕ
lowest [] = None
lowest (w ∷ ws) = Some (lesser w (lowest ws))

abbrev pub highest : List ℕ → Option ℕ
highest [] = None
highest (w ∷ ws) = Some (greater w (highest ws))

with_least : ℤ → Option ℤ → Option ℤ
with_least w o = elim o [ None ↦ Some w | Some m ↦ Some (cond (int_lt w m) w m) ]

with_most : ℤ → Option ℤ → Option ℤ
with_most w o = elim o [ None ↦ Some w | Some m ↦ Some (cond (int_lt m w) w m) ]

chosen : (f : ℕ → ℤ) (b : Bool) (w m : ℕ) → cond b (f w) (f m) ≡ f (cond b w m)
chosen f false w m = refl
chosen f true w m = refl

least-one : (signed : Bool) (w : ℕ) (o : Option ℕ) → with_least (unshifted signed w) (option_map (unshifted signed) o) ≡ Some (unshifted signed (lesser w o))
unfolding with_least
least-one signed w None = refl
least-one signed w (Some m) = ap (λ (b : Bool). Some (cond b (unshifted signed w) (unshifted signed m))) (order_kept signed w m) ∙ ap (λ (z : ℤ). Some z) (chosen (unshifted signed) (nat_lt w m) w m)

most-one : (signed : Bool) (w : ℕ) (o : Option ℕ) → with_most (unshifted signed w) (option_map (unshifted signed) o) ≡ Some (unshifted signed (greater w o))
unfolding with_most
most-one signed w None = refl
most-one signed w (Some m) = ap (λ (b : Bool). Some (cond b (unshifted signed w) (unshifted signed m))) (order_kept signed m w) ∙ ap (λ (z : ℤ). Some z) (chosen (unshifted signed) (nat_lt m w) w m)

pub least-map : (signed : Bool) (ws : List ℕ) → least (map (unshifted signed) ws) ≡ option_map (unshifted signed) (lowest ws)
unfolding with_least
least-map signed [] = refl
least-map signed (w ∷ ws) = ap (with_least (unshifted signed w)) (least-map signed ws) ∙ least-one signed w (lowest ws)

pub most-map : (signed : Bool) (ws : List ℕ) → most (map (unshifted signed) ws) ≡ option_map (unshifted signed) (highest ws)
unfolding with_most
most-map signed [] = refl
most-map signed (w ∷ ws) = ap (with_most (unshifted signed w)) (most-map signed ws) ∙ most-one signed w (highest ws)

-- the two numbers of a list
abbrev pub least_number : List ℕ → ℕ
least_number ws = unwrap_or (lowest ws) 65535

abbrev pub greatest_number : List ℕ → ℕ
greatest_number ws = unwrap_or (highest ws) 0

natural : (o : Option ℕ) (d : ℕ) → unwrap_or (option_map pos o) (pos d) ≡ pos (unwrap_or o d)
natural None d = refl
natural (Some m) d = refl

pub least_is : (ws : List ℕ) → unwrap_or (least (map pos ws)) (pos 65535) ≡ pos (least_number ws)
least_is ws = ap (λ (o : Option ℤ). unwrap_or o (pos 65535)) (least-map false ws) ∙ natural (lowest ws) 65535

pub most_is : (ws : List ℕ) → unwrap_or (most (map pos ws)) (pos 0) ≡ pos (greatest_number ws)
most_is ws = ap (λ (o : Option ℤ). unwrap_or o (pos 0)) (most-map false ws) ∙ natural (highest ws) 0

pub least_from : (n : ℕ) (ws : List ℕ) → pos n ≡ unwrap_or (least (map pos ws)) (pos 65535) → n ≡ least_number ws
least_from n ws e = ap unsigned_abs (e ∙ least_is ws)

pub most_from : (n : ℕ) (ws : List ℕ) → pos n ≡ unwrap_or (most (map pos ws)) (pos 0) → n ≡ greatest_number ws
most_from n ws e = ap unsigned_abs (e ∙ most_is ws)

-- one more number at the end
lesser-swap : (w x : ℕ) (o : Option ℕ) → lesser w (Some (lesser x o)) ≡ lesser x (Some (lesser w o))
lesser-swap w x None = grind (arith, nat_tests)
lesser-swap w x (Some m) = grind (arith, nat_tests)

greater-swap : (w x : ℕ) (o : Option ℕ) → greater w (Some (greater x o)) ≡ greater x (Some (greater w o))
greater-swap w x None = grind (arith, nat_tests)
greater-swap w x (Some m) = grind (arith, nat_tests)

lowest-push : (ws : List ℕ) (x : ℕ) → lowest (ws ++ x ∷ []) ≡ Some (lesser x (lowest ws))
lowest-push [] x = refl
lowest-push (w ∷ ws) x = ap (λ (o : Option ℕ). Some (lesser w o)) (lowest-push ws x) ∙ ap (λ (n : ℕ). Some n) (lesser-swap w x (lowest ws))

highest-push : (ws : List ℕ) (x : ℕ) → highest (ws ++ x ∷ []) ≡ Some (greater x (highest ws))
highest-push [] x = refl
highest-push (w ∷ ws) x = ap (λ (o : Option ℕ). Some (greater w o)) (highest-push ws x) ∙ ap (λ (n : ℕ). Some n) (greater-swap w x (highest ws))

lesser_is : (x : ℕ) (o : Option ℕ) → x ≤ 65535 → min (unwrap_or o 65535) x ≡ lesser x o
lesser_is x None h = omega arith
lesser_is x (Some m) h = grind (arith, nat_tests)

greater_is : (x : ℕ) (o : Option ℕ) → max (unwrap_or o 0) x ≡ greater x o
greater_is x None = omega arith
greater_is x (Some m) = grind (arith, nat_tests)

pub least_push : (n : ℕ) (ws : List ℕ) (x : ℕ) → x ≤ 65535 → pos n ≡ unwrap_or (least (map pos ws)) (pos 65535) → pos (min n x) ≡ unwrap_or (least (map pos (ws ++ x ∷ []))) (pos 65535)
least_push n ws x h e =
    ap (λ (k : ℕ). pos (min k x)) (least_from n ws e) ∙ (ap pos (lesser_is x (lowest ws) h) ∙ (ap (λ (o : Option ℕ). pos (unwrap_or o 65535)) (sym (lowest-push ws x)) ∙ sym (least_is (ws ++ x ∷ []))))

pub most_push : (n : ℕ) (ws : List ℕ) (x : ℕ) → pos n ≡ unwrap_or (most (map pos ws)) (pos 0) → pos (max n x) ≡ unwrap_or (most (map pos (ws ++ x ∷ []))) (pos 0)
most_push n ws x e =
    ap (λ (k : ℕ). pos (max k x)) (most_from n ws e) ∙ (ap pos (greater_is x (highest ws)) ∙ (ap (λ (o : Option ℕ). pos (unwrap_or o 0)) (sym (highest-push ws x)) ∙ sym (most_is (ws ++ x ∷ []))))

-- what the two numbers say of a list that has elements
pub least_of_some : (n : ℕ) (signed : Bool) (ws : List ℕ) → 0 < length ws → pos n ≡ unwrap_or (least (map pos ws)) (pos 65535) → least (map (unshifted signed) ws) ≡ Some (unshifted signed n)
least_of_some n signed [] some e = absurd (omega arith)
least_of_some n signed (w ∷ ws) some e = least-map signed (w ∷ ws) ∙ ap (λ (k : ℕ). Some (unshifted signed k)) (sym (least_from n (w ∷ ws) e))

pub most_of_some : (n : ℕ) (signed : Bool) (ws : List ℕ) → 0 < length ws → pos n ≡ unwrap_or (most (map pos ws)) (pos 0) → most (map (unshifted signed) ws) ≡ Some (unshifted signed n)
most_of_some n signed [] some e = absurd (omega arith)
most_of_some n signed (w ∷ ws) some e = most-map signed (w ∷ ws) ∙ ap (λ (k : ℕ). Some (unshifted signed k)) (sym (most_from n (w ∷ ws) e))

lesser-le : (w : ℕ) (o : Option ℕ) → lesser w o ≤ w
lesser-le w None = omega arith
lesser-le w (Some m) = grind (arith, nat_tests)

le-greater : (w : ℕ) (o : Option ℕ) → w ≤ greater w o
le-greater w None = omega arith
le-greater w (Some m) = grind (arith, nat_tests)

-- the rules hold of the two numbers of a list
pub rules_of_list : (ws : List ℕ) → AreExtrema (length ws) (least_number ws) (greatest_number ws)
rules_of_list [] = record { none_least = λ e. refl; none_greatest = λ e. refl; some = λ h. absurd (omega arith) }
rules_of_list (w ∷ ws) = record {
  none_least = λ e. absurd (omega arith);
  none_greatest = λ e. absurd (omega arith);
  some = λ h. omega (arith, lesser-le w (lowest ws), le-greater w (highest ws));
}

pub rules_of : (a b : ℕ) (ws : List ℕ) → a ≡ least_number ws → b ≡ greatest_number ws → AreExtrema (length ws) a b
rules_of a b ws p q = subst (λ (k : ℕ). AreExtrema (length ws) k b) (sym p) (subst (λ (k : ℕ). AreExtrema (length ws) (least_number ws) k) (sym q) (rules_of_list ws))
