-- Words of a list, read one by one.
use Rattle.std.specs.Prelude.{◌≡◌, ℕ, zero, suc, ◌+◌, ◌<◌, ◌≤◌, List, [], ◌∷◌, length, map, drop, Result, Ok, Err, refl}
use Rattle.std.proofs.Common.{sym, ap, subst, ◌∙◌, arith, get_or, add-one}
use Rattle.sval_tool.specs.Words.{Asked, GivesOrStops, IsStop, asked_by_words, asked_by_options}
use Rattle.sval_tool.specs.WordReading.{Reading, if_read, at_last, before_words, reading_in, reads_from, reads_word}
use Rattle.sval_tool.specs.declared.words.Options.{Options}
use Rattle.sval_tool.specs.declared.words.reader.WordReader.{WordReader}
use Rattle.sval_tool.specs.declared.words.Stop.{Stop}
use Rattle.sval_tool.specs.declared.words.Stop.TheVariants as stop
use Rattle.sval_tool.proofs.WordsAsked.{words_asked}

module _ {X : Type 0} (view : X → List ℕ) where
  left : (words : List X) (at : ℕ) (d : X) → at < length words → map view (drop at words) ≡ view (get_or words at d) ∷ map view (drop (at + 1) words)
  left words at d low = rw add-one (at_suc words at low)
    where
      at_suc : (words : List X) (at : ℕ) → at < length words → map view (drop at words) ≡ view (get_or words at d) ∷ map view (drop (suc at) words)
      at_suc [] at low = absurd (omega (arith, low))
      at_suc (word ∷ words) zero low = refl
      at_suc (word ∷ words) (suc at) low = at_suc words at (omega (arith, low))

  none_left : (words : List X) (at : ℕ) → length words ≤ at → map view (drop at words) ≡ []
  none_left [] zero all = refl
  none_left [] (suc at) all = refl
  none_left (word ∷ words) zero all = absurd (omega (arith, all))
  none_left (word ∷ words) (suc at) all = none_left words at (omega (arith, all))

  -- what the words from one on ask for, by the first of them
  first_left : (words : List X) (at : ℕ) (d : X) (reading : Reading) → at < length words
      → reads_from at reading (map view (drop at words)) ≡ if_read (reads_word at reading (view (get_or words at d))) (λ (next : Reading). reads_from (at + 1) next (map view (drop (at + 1) words)))
  first_left words at d reading low = ap (λ (bytes : List (List ℕ)). reads_from at reading bytes) (left words at d low)

  -- a word was read
  pub word_read : (words : List X) (at : ℕ) (d : X) (reading next : Reading) (whole : Result Asked Stop) → at < length words → reads_from at reading (map view (drop at words)) ≡ whole
      → reads_word at reading (view (get_or words at d)) ≡ Ok next → reads_from (at + 1) next (map view (drop (at + 1) words)) ≡ whole
  word_read words at d reading next whole low all is =
      sym (ap (λ (r : Result Reading Stop). if_read r (λ (next : Reading). reads_from (at + 1) next (map view (drop (at + 1) words)))) is)
      ∙ (sym (first_left words at d reading low) ∙ all)

  stopped : (words : List X) (at : ℕ) (d : X) (reading : Reading) (whole : Result Asked Stop) (why : Stop) → at < length words → reads_from at reading (map view (drop at words)) ≡ whole
      → reads_word at reading (view (get_or words at d)) ≡ Err why → whole ≡ Err why
  stopped words at d reading whole why low all is =
      sym all
      ∙ (first_left words at d reading low
      ∙ ap (λ (r : Result Reading Stop). if_read r (λ (next : Reading). reads_from (at + 1) next (map view (drop (at + 1) words)))) is)

  -- a word ends the reading
  word_stops : (words : List X) (at : ℕ) (d : X) (reading : Reading) (whole : Result Asked Stop) (why : Stop) → at < length words → reads_from at reading (map view (drop at words)) ≡ whole
      → IsStop (reads_word at reading (view (get_or words at d))) why → IsStop whole why
  word_stops words at d reading whole stop.NoMemory low all is = tt
  word_stops words at d reading whole stop.Help low all is = stopped words at d reading whole stop.Help low all is
  word_stops words at d reading whole stop.Version low all is = stopped words at d reading whole stop.Version low all is
  word_stops words at d reading whole (stop.Usage i why) low all is = stopped words at d reading whole (stop.Usage i why) low all is

  -- no word is left
  words_end : (words : List X) (at count : ℕ) (reading : Reading) (whole : Result Asked Stop) → length words ≤ at → at ≡ count → reads_from at reading (map view (drop at words)) ≡ whole
      → at_last count reading.due reading.asked ≡ whole
  words_end words at count reading whole over same all =
      ap (λ (n : ℕ). at_last n reading.due reading.asked) (sym same) ∙ (sym (ap (λ (bytes : List (List ℕ)). reads_from at reading bytes) (none_left words at over)) ∙ all)

  -- ---- of the reader

  -- a word ends the reading with what is due of all
  stops_with : (words : List X) (at : ℕ) (d : X) (reader : WordReader) (why : Stop) → at < length words
      → reads_from at (reading_in reader) (map view (drop at words)) ≡ reads_from 0 before_words (map view words)
      → IsStop (reads_word at (reading_in reader) (view (get_or words at d))) why → IsStop (asked_by_words (map view words)) why
  stops_with words at d reader why low so_far is = word_stops words at d (reading_in reader) (asked_by_words (map view words)) why low (so_far ∙ words_asked (map view words)) is

  pub stops_at : (words : List X) (at : ℕ) (d x : X) (word : List ℕ) (reader : WordReader) (why : Stop) → x ≡ get_or words at d → word ≡ view x → at < length words
      → reads_from at (reading_in reader) (map view (drop at words)) ≡ reads_from 0 before_words (map view words)
      → IsStop (reads_word at (reading_in reader) word) why → IsStop (asked_by_words (map view words)) why
  stops_at words at d x word reader why is_x is_word low so_far is =
      let same : word ≡ view (get_or words at d) = is_word ∙ ap view is_x in
      stops_with words at d reader why low so_far (subst (λ (bytes : List ℕ). IsStop (reads_word at (reading_in reader) bytes) why) same is)

  -- behind the last word, what is due of all is given
  pub gives_all : (words : List X) (at count : ℕ) (reader : WordReader) (result : Result Options Stop) → length words ≤ at → at ≤ length words → count ≡ length words
      → reads_from at (reading_in reader) (map view (drop at words)) ≡ reads_from 0 before_words (map view words)
      → GivesOrStops asked_by_options (at_last count reader.due (asked_by_options reader.options)) result → GivesOrStops asked_by_options (asked_by_words (map view words)) result
  gives_all words at count reader result over within is so_far gives =
      let same : at ≡ count = omega (arith, over, within, is) in
      let e : at_last count reader.due (asked_by_options reader.options) ≡ asked_by_words (map view words) =
      words_end words at count (reading_in reader) (asked_by_words (map view words)) over same (so_far ∙ words_asked (map view words)) in
      subst (λ (due : Result Asked Stop). GivesOrStops asked_by_options due result) e gives
