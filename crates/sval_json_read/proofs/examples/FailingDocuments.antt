-- Where some texts fail.
use Rattle.std.specs.Prelude.{◌≡◌, ℕ, true, false, List, [], ◌∷◌, refl, codes, IsUtf8}
use Rattle.std.specs.Char.{encode_utf8}
use Rattle.std.specs.Str.{chars, is_utf8}
use Rattle.std.proofs.Common.{subst}
use Rattle.std.proofs.lemmas.Str.{is_utf8-from_IsUtf8}
use Rattle.sval_json.specs.Fronts.{FailsAt}
use Rattle.sval_json.proofs.NumberTexts.{ascii_utf8}
use Rattle.sval_json_read.specs.Reader.{bytes_taken}
use Rattle.sval_json_read.proofs.Fails.{stops-fails}

fails : (bytes : List ℕ) (n : ℕ) → IsUtf8 bytes → bytes_taken bytes ≡ n → FailsAt bytes n
fails bytes n u e = subst (FailsAt bytes) e (stops-fails bytes u)

at_nothing : FailsAt [] 0
at_nothing = fails [] 0 (ascii_utf8 [] refl) refl

at_spaces : FailsAt (codes "  ") 2
at_spaces = fails (codes "  ") 2 (ascii_utf8 (codes "  ") refl) refl

at_cut_word : FailsAt (codes "nul") 3
at_cut_word = fails (codes "nul") 3 (ascii_utf8 (codes "nul") refl) refl

at_wrong_word : FailsAt (codes "nulx") 3
at_wrong_word = fails (codes "nulx") 3 (ascii_utf8 (codes "nulx") refl) refl

at_spaced_word : FailsAt (codes "tru e") 3
at_spaced_word = fails (codes "tru e") 3 (ascii_utf8 (codes "tru e") refl) refl

at_capital : FailsAt (codes "True") 0
at_capital = fails (codes "True") 0 (ascii_utf8 (codes "True") refl) refl

-- ---- numbers

at_lone_minus : FailsAt (codes "-") 1
at_lone_minus = fails (codes "-") 1 (ascii_utf8 (codes "-") refl) refl

at_minus_and_letter : FailsAt (codes "-x") 1
at_minus_and_letter = fails (codes "-x") 1 (ascii_utf8 (codes "-x") refl) refl

at_leading_zero : FailsAt (codes "01") 1
at_leading_zero = fails (codes "01") 1 (ascii_utf8 (codes "01") refl) refl

at_signed_leading_zero : FailsAt (codes "-01") 2
at_signed_leading_zero = fails (codes "-01") 2 (ascii_utf8 (codes "-01") refl) refl

at_plus : FailsAt (codes "+1") 0
at_plus = fails (codes "+1") 0 (ascii_utf8 (codes "+1") refl) refl

at_bare_fraction : FailsAt (codes ".5") 0
at_bare_fraction = fails (codes ".5") 0 (ascii_utf8 (codes ".5") refl) refl

at_no_fraction : FailsAt (codes "1.") 2
at_no_fraction = fails (codes "1.") 2 (ascii_utf8 (codes "1.") refl) refl

at_letter_for_fraction : FailsAt (codes "1.x") 2
at_letter_for_fraction = fails (codes "1.x") 2 (ascii_utf8 (codes "1.x") refl) refl

at_no_power : FailsAt (codes "1e+") 3
at_no_power = fails (codes "1e+") 3 (ascii_utf8 (codes "1e+") refl) refl

at_two_signs : FailsAt (codes "1e+-1") 3
at_two_signs = fails (codes "1e+-1") 3 (ascii_utf8 (codes "1e+-1") refl) refl

at_two_points : FailsAt (codes "1.5.2") 3
at_two_points = fails (codes "1.5.2") 3 (ascii_utf8 (codes "1.5.2") refl) refl

-- ---- structure

at_two_values : FailsAt (codes "1 2") 2
at_two_values = fails (codes "1 2") 2 (ascii_utf8 (codes "1 2") refl) refl

at_no_comma : FailsAt (codes "[1 2]") 3
at_no_comma = fails (codes "[1 2]") 3 (ascii_utf8 (codes "[1 2]") refl) refl

at_trailing_comma : FailsAt (codes "[1,]") 3
at_trailing_comma = fails (codes "[1,]") 3 (ascii_utf8 (codes "[1,]") refl) refl

at_two_commas : FailsAt (codes "[1,,2]") 3
at_two_commas = fails (codes "[1,,2]") 3 (ascii_utf8 (codes "[1,,2]") refl) refl

at_open_array : FailsAt (codes "[1") 2
at_open_array = fails (codes "[1") 2 (ascii_utf8 (codes "[1") refl) refl

at_array_closed_twice : FailsAt (codes "[1]]") 3
at_array_closed_twice = fails (codes "[1]]") 3 (ascii_utf8 (codes "[1]]") refl) refl

at_brace_for_bracket : FailsAt (codes "[}") 1
at_brace_for_bracket = fails (codes "[}") 1 (ascii_utf8 (codes "[}") refl) refl

at_bracket_for_brace : FailsAt (codes "{]") 1
at_bracket_for_brace = fails (codes "{]") 1 (ascii_utf8 (codes "{]") refl) refl

at_array_in_object_closed : FailsAt (codes "{\"a\":[}") 6
at_array_in_object_closed = fails (codes "{\"a\":[}") 6 (ascii_utf8 (codes "{\"a\":[}") refl) refl

at_bare_key : FailsAt (codes "{a") 1
at_bare_key = fails (codes "{a") 1 (ascii_utf8 (codes "{a") refl) refl

at_number_for_key : FailsAt (codes "{1:2}") 1
at_number_for_key = fails (codes "{1:2}") 1 (ascii_utf8 (codes "{1:2}") refl) refl

at_no_colon : FailsAt (codes "{\"a\" 1}") 5
at_no_colon = fails (codes "{\"a\" 1}") 5 (ascii_utf8 (codes "{\"a\" 1}") refl) refl

at_no_value : FailsAt (codes "{\"a\":}") 5
at_no_value = fails (codes "{\"a\":}") 5 (ascii_utf8 (codes "{\"a\":}") refl) refl

at_trailing_comma_in_object : FailsAt (codes "{\"a\":1,}") 7
at_trailing_comma_in_object = fails (codes "{\"a\":1,}") 7 (ascii_utf8 (codes "{\"a\":1,}") refl) refl

at_closing_bracket : FailsAt (codes "]") 0
at_closing_bracket = fails (codes "]") 0 (ascii_utf8 (codes "]") refl) refl

-- ---- strings

at_open_string : FailsAt (codes "\"a") 2
at_open_string = fails (codes "\"a") 2 (ascii_utf8 (codes "\"a") refl) refl

at_unknown_escape : FailsAt (codes "\"\\x\"") 2
at_unknown_escape = fails (codes "\"\\x\"") 2 (ascii_utf8 (codes "\"\\x\"") refl) refl

at_cut_escape : FailsAt (codes "\"\\") 2
at_cut_escape = fails (codes "\"\\") 2 (ascii_utf8 (codes "\"\\") refl) refl

at_short_unit : FailsAt (codes "\"\\u12\"") 5
at_short_unit = fails (codes "\"\\u12\"") 5 (ascii_utf8 (codes "\"\\u12\"") refl) refl

at_no_hex_digit : FailsAt (codes "\"\\u12g4\"") 5
at_no_hex_digit = fails (codes "\"\\u12g4\"") 5 (ascii_utf8 (codes "\"\\u12g4\"") refl) refl

-- ---- surrogates

at_lone_high : FailsAt (codes "\"\\ud800\"") 7
at_lone_high = fails (codes "\"\\ud800\"") 7 (ascii_utf8 (codes "\"\\ud800\"") refl) refl

at_cut_high : FailsAt (codes "\"\\ud8") 5
at_cut_high = fails (codes "\"\\ud8") 5 (ascii_utf8 (codes "\"\\ud8") refl) refl

at_high_and_letter : FailsAt (codes "\"\\ud800x\"") 7
at_high_and_letter = fails (codes "\"\\ud800x\"") 7 (ascii_utf8 (codes "\"\\ud800x\"") refl) refl

at_high_and_newline : FailsAt (codes "\"\\ud800\\n\"") 8
at_high_and_newline = fails (codes "\"\\ud800\\n\"") 8 (ascii_utf8 (codes "\"\\ud800\\n\"") refl) refl

at_high_and_ordinary : FailsAt (codes "\"\\ud800\\u0041\"") 9
at_high_and_ordinary = fails (codes "\"\\ud800\\u0041\"") 9 (ascii_utf8 (codes "\"\\ud800\\u0041\"") refl) refl

at_two_high : FailsAt (codes "\"\\ud800\\udbff\"") 10
at_two_high = fails (codes "\"\\ud800\\udbff\"") 10 (ascii_utf8 (codes "\"\\ud800\\udbff\"") refl) refl

at_lone_low : FailsAt (codes "\"\\udc00\"") 4
at_lone_low = fails (codes "\"\\udc00\"") 4 (ascii_utf8 (codes "\"\\udc00\"") refl) refl

at_low_in_capitals : FailsAt (codes "\"\\uDFFF\"") 4
at_low_in_capitals = fails (codes "\"\\uDFFF\"") 4 (ascii_utf8 (codes "\"\\uDFFF\"") refl) refl

-- a control character, which no string holds as it stands
at_control : FailsAt (34 ∷ 97 ∷ 9 ∷ 34 ∷ []) 2
at_control = fails (34 ∷ 97 ∷ 9 ∷ 34 ∷ []) 2 (ascii_utf8 (34 ∷ 97 ∷ 9 ∷ 34 ∷ []) refl) refl

-- a form feed is no white space
at_form_feed : FailsAt (12 ∷ codes "1") 0
at_form_feed = fails (12 ∷ codes "1") 0 (ascii_utf8 (12 ∷ codes "1") refl) refl

-- ---- other characters: the place is in front of the whole character

-- a byte order mark
at_mark : FailsAt (0xef ∷ 0xbb ∷ 0xbf ∷ codes "1") 0
unfolding encode_utf8
at_mark = fails (0xef ∷ 0xbb ∷ 0xbf ∷ codes "1") 0 (0xfeff ∷ codes "1", (refl, refl)) refl

-- U+00E9 after a backslash, and after a string
at_escaped_letter : FailsAt (34 ∷ 92 ∷ 0xc3 ∷ 0xa9 ∷ 34 ∷ []) 2
unfolding encode_utf8
at_escaped_letter = fails (34 ∷ 92 ∷ 0xc3 ∷ 0xa9 ∷ 34 ∷ []) 2 (34 ∷ 92 ∷ 0xe9 ∷ 34 ∷ [], (refl, refl)) refl

at_letter_after_string : FailsAt (34 ∷ 0xc3 ∷ 0xa9 ∷ 34 ∷ 0xc3 ∷ 0xa9 ∷ []) 4
unfolding encode_utf8
at_letter_after_string = fails (34 ∷ 0xc3 ∷ 0xa9 ∷ 34 ∷ 0xc3 ∷ 0xa9 ∷ []) 4 (34 ∷ 0xe9 ∷ 34 ∷ 0xe9 ∷ [], (refl, refl)) refl

-- ---- and bytes that aren't UTF-8

no_utf8 : IsUtf8 (0xff ∷ []) → ⊥
unfolding encode_utf8 chars is_utf8
no_utf8 u = let e : false ≡ true = is_utf8-from_IsUtf8 (0xff ∷ []) u in cc e
