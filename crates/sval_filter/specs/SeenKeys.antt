-- The text that a key's calls begin with, read call by call.
use Rattle.std.specs.Prelude.{◌≡◌, ℕ, ◌-◌, ◌^◌, ⊤, List, [], ◌++◌, Option, Some, None, Result, Ok, Err, string_bytes}
use Rattle.sval_label.specs.Calls.{Call}
use Rattle.sval_label.specs.declared.error.Error.{Error}
use Rattle.sval_label.specs.declared.error.NoMemory.{NoMemory}
use Rattle.sval_core.specs.Law.{Law, Standing, Rose}
use Rattle.sval_filter.specs.declared.key_text.KeyText.{KeyText}
use Rattle.sval_filter.specs.declared.key_text.Place.{Place}
use Rattle.sval_filter.specs.declared.key_text.Place.TheVariants.{Before, Inside, After, NoText}

-- where the calls so far have led, and the bytes of the text's fragments
pub record KeyRead : Type 0 where
  pub place : Place
  pub text : List ℕ

-- no call was read
abbrev pub nothing_read : KeyRead
nothing_read = record { place = Before; text = [] }

-- where a call leads that is no part of the text
abbrev pub passed_by : Place → Place
passed_by Before = NoText
passed_by Inside = After
passed_by place = place

-- a fragment counts inside the text
abbrev pub with_fragment : Place → List ℕ → List ℕ → KeyRead
with_fragment Inside text bytes = record { place = Inside; text = text ++ bytes }
with_fragment place text bytes = record { place = passed_by place; text = text }

-- the begin of a text counts before all else
abbrev pub with_begin : Place → List ℕ → KeyRead
with_begin Before text = record { place = Inside; text = text }
with_begin place text = record { place = passed_by place; text = text }

-- a call more; a hint leaves all
abbrev pub key_read_on : KeyRead → Call → KeyRead
key_read_on key (Call.TagHint tag) = key
key_read_on key (Call.TextBegin size) = with_begin key.place key.text
key_read_on key (Call.TextFragment borrowed bytes) = with_fragment key.place key.text bytes
key_read_on key call = record { place = passed_by key.place; text = key.text }

-- the text, if there is one
abbrev pub text_by : Place → List ℕ → Option (List ℕ)
text_by Inside text = Some text
text_by After text = Some text
text_by place text = None

-- it takes all calls, and refuses one only inside the text
abbrev pub read_law : Law KeyRead
read_law = record { accepts = λ key call. ⊤; after = key_read_on; stopped = λ key call left. key.place ≡ Inside }

-- how often memory was wanting, by the last want that is kept: the count stands at its type's end from the first want on
abbrev pub wants_by : Option NoMemory → ℕ
wants_by None = 0
wants_by (Some cause) = 2 ^ 64 - 1

-- where it stands that has read this, and wanted memory so often
abbrev pub read_standing : KeyRead → ℕ → Standing KeyRead
read_standing key wants = record { view = key; faults = 0; wants = wants }

-- where the reader of a key stands
abbrev pub key_standing : KeyText → Standing KeyRead
key_standing key = read_standing (record { place = key.place; text = string_bytes key.text }) (wants_by key.want)

-- what copying a fragment says, which is to lead here: it did, or memory was wanting inside the text
abbrev pub Copies : KeyRead → ℕ → Result (Unit {0}) Error → KeyRead → ℕ → Type 0
Copies due wants (Ok done) new now = (new ≡ due) × (now ≡ wants)
Copies due wants (Err refusal) new now = (due.place ≡ Inside) × Rose wants now
