-- What a buffer for fragments holds.
use Rattle.std.specs.Prelude.{true, false}
use Rattle.sval_buffer.specs.Pushes.{HeldBytes}
use Rattle.sval_buffer.specs.declared.fragment_buf.Held.{Held}
use Rattle.sval_buffer.specs.declared.fragment_buf.Held.TheVariants.{Borrowed, Owned}

-- the bytes, with whether they are borrowed
abbrev pub held_bytes : Held → HeldBytes
held_bytes (Borrowed bytes) = record { borrowed = true; bytes = bytes.now }
held_bytes (Owned bytes) = record { borrowed = false; bytes = bytes.items }
