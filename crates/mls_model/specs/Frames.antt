-- The eight frames, their spellings, and what the front of a list of bytes is by the table of lengths.
use Rattle.std.specs.Prelude.{◌≡◌, ℕ, zero, suc, ◌+◌, ◌*◌, ◌%◌, ◌^◌, ◌<◌, ◌≤◌, Bool, not, ◌||◌, cond, List, [], ◌∷◌, ◌++◌, length, take, drop, nat_lt, ◌==◌}
use Rattle.std.specs.List.{flat_map, AllByRecursion}
use Rattle.std.specs.Int.{Width, w16, w32, byte_len, to_be_bytes, from_be_bytes}
use Rattle.mls_model.specs.declared.lanes.FrameFault.{FrameFault}
use Rattle.mls_model.specs.declared.lanes.FrameFault.TheVariants.{BadKind, BadLength}

-- A piece of a group's timestep: rows of samples for the count cells from first on, row by row. Row 0 is A, row 1 is B, row 2 + k is C^k.
pub record Piece : Type 0 where
  pub life : ℕ
  pub group : ℕ
  pub plane : ℕ
  pub client : ℕ
  pub rows : ℕ
  pub first : ℕ
  pub count : ℕ
  pub samples : List ℕ

pub data Frame : Type 0 where
  piece : Piece → Frame
  beat : (group life : ℕ) → Frame
  bye : (group life : ℕ) → Frame
  save : Frame
  crash : Frame
  hello : (version group life client rank : ℕ) → Frame
  welcome : (lane : ℕ) → Frame
  refuse : (reason value : ℕ) → Frame

-- the longest body of a frame, in bytes
abbrev pub longest_body : ℕ
longest_body = 67108864

-- the numbers of a piece fit their fields, it has rows · count samples, and its body is not too long
pub record IsPiece (p : Piece) : Type 0 where
  pub life : p.life < 2 ^ 32
  pub group : p.group < 2 ^ 32
  pub plane : p.plane < 2 ^ 32
  pub client : p.client < 2 ^ 16
  pub rows : p.rows < 2 ^ 16
  pub first : p.first < 2 ^ 32
  pub count : p.count < 2 ^ 32
  pub samples : AllByRecursion (λ x. x < 2 ^ 16) p.samples
  pub size : length p.samples ≡ p.rows * p.count
  pub body : 25 + 2 * (p.rows * p.count) ≤ longest_body

-- the numbers of a frame fit their fields
abbrev pub IsFrame : Frame → Type 0
IsFrame (piece p) = IsPiece p
IsFrame (beat group life) = (group < 2 ^ 32) × (life < 2 ^ 32)
IsFrame (bye group life) = (group < 2 ^ 32) × (life < 2 ^ 32)
IsFrame save = Unit {0}
IsFrame crash = Unit {0}
IsFrame (hello version group life client rank) = (version < 2 ^ 16) × (group < 2 ^ 32) × (life < 2 ^ 32) × (client < 2 ^ 16) × (rank < 2 ^ 16)
IsFrame (welcome lane) = lane < 2 ^ 32
IsFrame (refuse reason value) = (reason < 2 ^ 8) × (value < 2 ^ 32)

-- numbers in big-endian order
abbrev pub u16 : ℕ → List ℕ
u16 n = to_be_bytes w16 n

abbrev pub u32 : ℕ → List ℕ
u32 n = to_be_bytes w32 n

-- the fields of a piece before its samples
unfoldable pub piece_head : Piece → List ℕ
piece_head p = u32 p.life ++ (u32 p.group ++ (u32 p.plane ++ (u16 p.client ++ (u16 p.rows ++ (u32 p.first ++ u32 p.count)))))

-- a frame's body: its kind byte and its fields in order
unfoldable pub body : Frame → List ℕ
body (piece p) = 1 ∷ (piece_head p ++ flat_map u16 p.samples)
body (beat group life) = 2 ∷ (u32 group ++ u32 life)
body (bye group life) = 3 ∷ (u32 group ++ u32 life)
body save = 4 ∷ []
body crash = 5 ∷ []
body (hello version group life client rank) = 6 ∷ (u16 version ++ (u32 group ++ (u32 life ++ (u16 client ++ u16 rank))))
body (welcome lane) = 7 ∷ u32 lane
body (refuse reason value) = 8 ∷ reason ∷ u32 value

-- the one spelling of a frame: the length of its body, and the body
unfoldable pub spelling : Frame → List ℕ
spelling frame = u32 (length (body frame)) ++ body frame

-- the bytes spell the frame
abbrev pub Spells : Frame → List ℕ → Type 0
Spells frame bytes = IsFrame frame × (bytes ≡ spelling frame)

-- What the front of a list of bytes is: a whole frame with the number of its bytes, too little to tell, or no frame's front.
pub data Sight : Type 0 where
  whole : Frame → (used : ℕ) → Sight
  more : Sight
  bad : FrameFault → Sight

-- the number of width w that stands at a place
abbrev pub number : Width → ℕ → List ℕ → ℕ
number w place bytes = from_be_bytes w (take (byte_len w) (drop place bytes))

-- the first n samples of a list of bytes
unfoldable pub samples_in : ℕ → List ℕ → List ℕ
samples_in zero bytes = []
samples_in (suc n) bytes = number w16 0 bytes ∷ samples_in n (drop 2 bytes)

-- the length of the body of a kind other than 1
abbrev pub fixed_length : ℕ → ℕ
fixed_length kind = cond (kind == 2 || kind == 3) 9 (cond (kind == 4 || kind == 5) 1 (cond (kind == 6) 15 (cond (kind == 7) 5 6)))

-- the frame of a kind other than 1 with these fields
unfoldable pub fixed_frame : ℕ → List ℕ → Frame
fixed_frame kind fields =
    cond (kind == 2) (beat (number w32 0 fields) (number w32 4 fields))
    (cond (kind == 3) (bye (number w32 0 fields) (number w32 4 fields))
    (cond (kind == 4) save
    (cond (kind == 5) crash
    (cond (kind == 6) (hello (number w16 0 fields) (number w32 2 fields) (number w32 6 fields) (number w16 10 fields) (number w16 12 fields))
    (cond (kind == 7) (welcome (number w32 0 fields))
    (refuse (from_be_bytes w16 (0 ∷ take 1 fields)) (number w32 1 fields)))))))

-- the piece with these fields
unfoldable pub piece_in : List ℕ → Piece
piece_in fields = record {
  life = number w32 0 fields;
  group = number w32 4 fields;
  plane = number w32 8 fields;
  client = number w16 12 fields;
  rows = number w16 14 fields;
  first = number w32 16 fields;
  count = number w32 20 fields;
  samples = samples_in (number w16 14 fields * number w32 20 fields) (drop 24 fields);
}

-- The table of lengths, from the kind byte on. size is the body's length, fields what stands after the kind byte.
unfoldable pub fixed_sight : ℕ → ℕ → List ℕ → Sight
fixed_sight size kind fields =
    cond (not (size == fixed_length kind)) (bad BadLength)
    (cond (nat_lt (1 + length fields) size) more
    (whole (fixed_frame kind fields) (4 + size)))

unfoldable pub piece_sight : ℕ → List ℕ → Sight
piece_sight size fields =
    cond (nat_lt size 25 || (size % 2 == 0)) (bad BadLength)
    (cond (nat_lt (length fields) 24) more
    (cond (not (size == 25 + 2 * (number w16 14 fields * number w32 20 fields))) (bad BadLength)
    (cond (nat_lt (1 + length fields) size) more
    (whole (piece (piece_in fields)) (4 + size)))))

-- whether no body has this length
abbrev pub is_no_length : ℕ → Bool
is_no_length size = (size == 0) || nat_lt longest_body size

unfoldable pub sized_sight : ℕ → List ℕ → Sight
sized_sight size [] = cond (is_no_length size) (bad BadLength) more
sized_sight size (kind ∷ fields) =
    cond (is_no_length size) (bad BadLength)
    (cond (nat_lt kind 1 || nat_lt 8 kind) (bad BadKind)
    (cond (kind == 1) (piece_sight size fields) (fixed_sight size kind fields)))

-- what the front of the bytes is
unfoldable pub sight : List ℕ → Sight
sight bytes = cond (nat_lt (length bytes) 4) more (sized_sight (number w32 0 bytes) (drop 4 bytes))
