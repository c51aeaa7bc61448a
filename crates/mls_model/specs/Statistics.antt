-- The batch statistics of a list of rows of values, by two passes over whole lists.
use Rattle.std.specs.Prelude.{ℕ, cond, List, [], ◌∷◌, length, map, get_or, ℤ, pos, ◌+ℤ◌, ◌-ℤ◌, ◌*ℤ◌, Option, Some, None, int_lt, int_div, unsigned_abs, count_by, flat_map}
use Rattle.mls_model.specs.Numbers.{sum_ints, square, cube}

-- an entry of a row, and a column of rows: 0 is A, 1 is B, 2 + k is C^k
abbrev pub entry : ℕ → List ℤ → ℤ
entry j row = get_or row j (pos 0)

abbrev pub column : ℕ → List (List ℤ) → List ℤ
column j rows = map (entry j) rows

-- the values of A and B of all rows
abbrev pub outputs : List (List ℤ) → List ℤ
outputs rows = flat_map (λ row. entry 0 row ∷ entry 1 row ∷ []) rows

-- the number of values, as an integer
abbrev pub size : {A : Type 0} → List A → ℤ
size xs = pos (length xs)

-- the sums of the first to fourth powers
abbrev pub total : List ℤ → ℤ
total ws = sum_ints (λ w. w) ws

abbrev pub squares : List ℤ → ℤ
squares ws = sum_ints square ws

abbrev pub cubes : List ℤ → ℤ
cubes ws = sum_ints cube ws

abbrev pub fourths : List ℤ → ℤ
fourths ws = sum_ints (λ w. square (square w)) ws

-- N times a value's distance from the mean of the N values
abbrev pub deviation : List ℤ → ℤ → ℤ
deviation ws w = (size ws *ℤ w) -ℤ total ws

-- The whole number V with N · V = Σ (N · w − P1)². The variance is V / (N · (N − 1)).
unfoldable pub variance_top : List ℤ → ℤ
variance_top ws = int_div (sum_ints (λ w. square (deviation ws w)) ws) (size ws)

-- The whole number U with N · U = Σ (N · w − P1)³. The third central moment is U / N³.
unfoldable pub third_top : List ℤ → ℤ
third_top ws = int_div (sum_ints (λ w. cube (deviation ws w)) ws) (size ws)

-- the least and the greatest value
abbrev pub least : List ℤ → Option ℤ
least [] = None
least (w ∷ ws) = elim (least ws) [ None ↦ Some w | Some m ↦ Some (cond (int_lt w m) w m) ]

abbrev pub most : List ℤ → Option ℤ
most [] = None
most (w ∷ ws) = elim (most ws) [ None ↦ Some w | Some m ↦ Some (cond (int_lt m w) w m) ]

-- how many values are greater than a threshold
abbrev pub above : ℤ → List ℤ → ℕ
above threshold ws = count_by (int_lt threshold) ws

-- the sum over two columns of rows, place by place
abbrev pub sum_pairs : (ℤ → ℤ → ℤ) → List ℤ → List ℤ → ℤ
sum_pairs f [] ys = pos 0
sum_pairs f (x ∷ xs) [] = pos 0
sum_pairs f (x ∷ xs) (y ∷ ys) = f x y +ℤ sum_pairs f xs ys

-- The whole number c with n · c = Σ (n · x − X) (n · y − Y), and 0 for no rows.
unfoldable pub covariance_top : List ℤ → List ℤ → ℤ
covariance_top xs ys = int_div (sum_pairs (λ x y. deviation xs x *ℤ deviation ys y) xs ys) (size xs)

abbrev pub spread_top : List ℤ → ℕ
spread_top xs = unsigned_abs (covariance_top xs xs)
