-- What is found at the first node of an item, as its value.
use Rattle.std.specs.Prelude.{◌≡◌, ◌≢◌, ℕ, ◌<◌, ◌≤◌, pos, negsuc, Bool, true, false, ◌==◌, if◌then◌else◌, List, [], ◌∷◌, length, take, drop, get_or, Option, Some, None, refl}
use Rattle.std.proofs.Common.{Bor, sym, ap, subst, ◌∙◌, arith}
use Rattle.std.proofs.lemmas.Bool.Decides.{nat_tests}
use Rattle.sval_label.specs.Calls.{Call, U128, I128}
use Rattle.sval_cbor_read.specs.declared.node.Node.{Node}
use Rattle.sval_cbor_read.specs.declared.found.Found as made_found
use Rattle.sval_cbor_read.specs.declared.found.Found.TheVariants as found
use Rattle.sval_cbor_read.specs.Reading.{Move, moves, Item, Bignum, body_step, string_step, tag_step, number_call}
use Rattle.sval_cbor_read.specs.Items.{big_endian}
use Rattle.sval_cbor_read.specs.CborValues.{CborLevel, cbor_innermost_level, cbor_first_value}
use Rattle.sval_cbor_read.specs.CborLookups.{cbor_truth_of, signed_of, cbor_unsigned_of, cbor_text_of, cbor_bytes_of, cbor_items_of, cbor_entries_of}
use Rattle.sval_cbor_read.specs.NodeSpans.{is_first}
use Rattle.sval_cbor_read.specs.SeenNodes.{node_offset, step_calls, node_own_calls, NodeStands}
use Rattle.sval_cbor_read.specs.SeenFound.{found_value, found_puts, AreFound, level_behind, value_at, AreOfItem}
use Rattle.sval_cbor_read.proofs.ItemCalls.{string_calls_are}
use Rattle.sval_cbor_read.proofs.CborNodes.{levels_at, first_levels}

-- ---- heads

-- a tag makes no call
tag_makes_none : (a b : Bool) (after : List ℕ) → step_calls (if a then moves [] after (Bignum 2 []) else if b then moves [] after (Bignum 3 []) else moves [] after (Item [])) ≡ []
tag_makes_none true b after = refl
tag_makes_none false true after = refl
tag_makes_none false false after = refl

-- nor does a major type that is left out
other_makes_none : (b : Bool) (n : ℕ) (after : List ℕ) → step_calls (if b then tag_step n after [] else None) ≡ []
other_makes_none true n after = tag_makes_none (n == 2) (n == 3) after
other_makes_none false n after = refl

pub no_other_major : (major n : ℕ) (after : List ℕ) {A : Type 0} → major ≢ 0 → major ≢ 1 → major ≢ 2 → major ≢ 3 → major ≢ 4 → major ≢ 5 → 0 < length (step_calls (body_step major n after [])) → A
no_other_major major n after a b c d e f l =
    let is_a : (major == 0) ≡ false = grind (arith, nat_tests) in
    let is_b : (major == 1) ≡ false = grind (arith, nat_tests) in
    let is_c : (major == 2) ≡ false = grind (arith, nat_tests) in
    let is_d : (major == 3) ≡ false = grind (arith, nat_tests) in
    let is_e : (major == 4) ≡ false = grind (arith, nat_tests) in
    let is_f : (major == 5) ≡ false = grind (arith, nat_tests) in
    let none : step_calls (body_step major n after []) ≡ [] = rw (is_a, is_b, is_c, is_d, is_e, is_f) (other_makes_none (major == 6) n after) in
    let length_is = ap length none in absurd (omega arith)

-- ---- strings

pub text_found : (n : ℕ) (after : List ℕ) (text : Bor (List ℕ)) → 0 < length (step_calls (string_step 3 n after [])) → text.now ≡ take n after → AreFound (step_calls (string_step 3 n after [])) (found.Text text)
text_found n after text l e = subst (λ made. AreFound made (found.Text text)) (string_calls_are 3 n after text.now l e) (record { puts_it = λ levels. refl })

pub binary_found : (n : ℕ) (after : List ℕ) (bytes : Bor (List ℕ)) → 0 < length (step_calls (string_step 2 n after [])) → bytes.now ≡ take n after → AreFound (step_calls (string_step 2 n after [])) (found.Bytes bytes)
binary_found n after bytes l e = subst (λ made. AreFound made (found.Bytes bytes)) (string_calls_are 2 n after bytes.now l e) (record { puts_it = λ levels. refl })

-- ---- numbers under tags

pub unsigned_found : (content : List ℕ) (n : ℕ) → Call.Int U128 (pos n) ≡ number_call 2 content → AreFound (number_call 2 content ∷ []) (found.Unsigned n)
unsigned_found content n e = subst (λ made. AreFound (made ∷ []) (found.Unsigned n)) e (record { puts_it = λ levels. refl })

pub negative_found : (content : List ℕ) (n : ℕ) → n ≡ big_endian content → AreFound (number_call 3 content ∷ []) (found.Negative n)
negative_found content n e = subst (λ m. AreFound (Call.Int I128 (negsuc m) ∷ []) (found.Negative n)) e (record { puts_it = λ levels. refl })

-- ---- the first node

found_first : (f : made_found.Found) (levels : List CborLevel) → cbor_first_value (cbor_innermost_level (found_puts f levels)).values ≡ found_value f (cbor_innermost_level levels)
found_first found.Null levels = refl
found_first (found.Bool b) levels = refl
found_first (found.Unsigned n) levels = refl
found_first (found.Negative n) levels = refl
found_first (found.Text text) levels = refl
found_first (found.Bytes bytes) levels = refl
found_first found.TextChunks levels = refl
found_first found.ByteChunks levels = refl
found_first found.Array levels = refl
found_first found.Map levels = refl

pub value_found : (bytes : List ℕ) (nodes : List Node) (d : Node) (f : made_found.Found) → AreOfItem bytes nodes → AreFound (node_own_calls (get_or nodes 0 d).kind (drop (node_offset (get_or nodes 0 d)) bytes)) f
    → value_at bytes nodes ≡ found_value f (level_behind bytes nodes)
value_found bytes [] d f a w = absurd a.begins
value_found bytes (n ∷ nodes) d f a w = ap (λ x. cbor_first_value (cbor_innermost_level x).values) (first_levels bytes n nodes ∙ w.puts_it (levels_at bytes nodes)) ∙ found_first f (levels_at bytes nodes)

module _ {bytes : List ℕ} where
  pub some_node : (nodes : List Node) → AreOfItem bytes nodes → 0 < length nodes
  some_node [] a = absurd a.begins
  some_node (n ∷ nodes) a = omega arith

  pub first_stands : (nodes : List Node) (d : Node) → AreOfItem bytes nodes → NodeStands bytes (get_or nodes 0 d)
  first_stands [] d a = absurd a.begins
  first_stands (n ∷ nodes) d a = a.stand.0

  pub first_is_first : (nodes : List Node) (d : Node) → AreOfItem bytes nodes → is_first (get_or nodes 0 d).kind ≡ true
  first_is_first [] d a = absurd a.begins
  first_is_first (n ∷ nodes) d a = a.begins

-- ---- where something else is found

-- what is found is no truth value
pub no_truth : (f : made_found.Found) (level : CborLevel) → ((b : Bool) → f ≡ found.Bool b → ⊥) → cbor_truth_of (found_value f level) ≡ None
no_truth found.Null level a = refl
no_truth (found.Bool b) level a = absurd (a b refl)
no_truth (found.Unsigned n) level a = refl
no_truth (found.Negative n) level a = refl
no_truth (found.Text text) level a = refl
no_truth (found.Bytes bytes) level a = refl
no_truth found.TextChunks level a = refl
no_truth found.ByteChunks level a = refl
no_truth found.Array level a = refl
no_truth found.Map level a = refl

-- it is no number from 0 on
pub no_natural : (bits : ℕ) (f : made_found.Found) (level : CborLevel) → ((n : ℕ) → f ≡ found.Unsigned n → ⊥) → cbor_unsigned_of bits (found_value f level) ≡ None
no_natural bits found.Null level a = refl
no_natural bits (found.Bool b) level a = refl
no_natural bits (found.Unsigned n) level a = absurd (a n refl)
no_natural bits (found.Negative n) level a = refl
no_natural bits (found.Text text) level a = refl
no_natural bits (found.Bytes bytes) level a = refl
no_natural bits found.TextChunks level a = refl
no_natural bits found.ByteChunks level a = refl
no_natural bits found.Array level a = refl
no_natural bits found.Map level a = refl

-- it is no number
pub no_number : (bits : ℕ) (f : made_found.Found) (level : CborLevel) → ((n : ℕ) → f ≡ found.Unsigned n → ⊥) → ((n : ℕ) → f ≡ found.Negative n → ⊥) → signed_of bits (found_value f level) ≡ None
no_number bits found.Null level a c = refl
no_number bits (found.Bool b) level a c = refl
no_number bits (found.Unsigned n) level a c = absurd (a n refl)
no_number bits (found.Negative n) level a c = absurd (c n refl)
no_number bits (found.Text text) level a c = refl
no_number bits (found.Bytes bytes) level a c = refl
no_number bits found.TextChunks level a c = refl
no_number bits found.ByteChunks level a c = refl
no_number bits found.Array level a c = refl
no_number bits found.Map level a c = refl

-- it is no text
pub no_text : (f : made_found.Found) (level : CborLevel) → ((text : Bor (List ℕ)) → f ≡ found.Text text → ⊥) → (f ≡ found.TextChunks → ⊥) → cbor_text_of (found_value f level) ≡ None
no_text found.Null level a c = refl
no_text (found.Bool b) level a c = refl
no_text (found.Unsigned n) level a c = refl
no_text (found.Negative n) level a c = refl
no_text (found.Text text) level a c = absurd (a text refl)
no_text (found.Bytes bytes) level a c = refl
no_text found.TextChunks level a c = absurd (c refl)
no_text found.ByteChunks level a c = refl
no_text found.Array level a c = refl
no_text found.Map level a c = refl

-- it is no byte string
pub no_bytes : (f : made_found.Found) (level : CborLevel) → ((bytes : Bor (List ℕ)) → f ≡ found.Bytes bytes → ⊥) → (f ≡ found.ByteChunks → ⊥) → cbor_bytes_of (found_value f level) ≡ None
no_bytes found.Null level a c = refl
no_bytes (found.Bool b) level a c = refl
no_bytes (found.Unsigned n) level a c = refl
no_bytes (found.Negative n) level a c = refl
no_bytes (found.Text text) level a c = refl
no_bytes (found.Bytes bytes) level a c = absurd (a bytes refl)
no_bytes found.TextChunks level a c = refl
no_bytes found.ByteChunks level a c = absurd (c refl)
no_bytes found.Array level a c = refl
no_bytes found.Map level a c = refl

-- it is no array
pub no_items : (f : made_found.Found) (level : CborLevel) → (f ≡ found.Array → ⊥) → cbor_items_of (found_value f level) ≡ None
no_items found.Null level a = refl
no_items (found.Bool b) level a = refl
no_items (found.Unsigned n) level a = refl
no_items (found.Negative n) level a = refl
no_items (found.Text text) level a = refl
no_items (found.Bytes bytes) level a = refl
no_items found.TextChunks level a = refl
no_items found.ByteChunks level a = refl
no_items found.Array level a = absurd (a refl)
no_items found.Map level a = refl

-- it is no map
pub no_entries : (f : made_found.Found) (level : CborLevel) → (f ≡ found.Map → ⊥) → cbor_entries_of (found_value f level) ≡ None
no_entries found.Null level a = refl
no_entries (found.Bool b) level a = refl
no_entries (found.Unsigned n) level a = refl
no_entries (found.Negative n) level a = refl
no_entries (found.Text text) level a = refl
no_entries (found.Bytes bytes) level a = refl
no_entries found.TextChunks level a = refl
no_entries found.ByteChunks level a = refl
no_entries found.Array level a = refl
no_entries found.Map level a = absurd (a refl)
