-- A forest whose texts and binaries are copies of its own, which borrow nothing.
use Rattle.std.specs.Prelude.{true, false, map}
use Rattle.sval_label.specs.Calls.{Call, TextBegin, BinaryBegin}
use Rattle.sval_core.specs.Law.{Law, computed}
use Rattle.sval_buffer.specs.Pushes.{HeldBytes}
use Rattle.sval_buffer.specs.Forest.{Node, Single, Text, Binary, Container, Nodes, none, ◌and◌, Open, Forest, CaptureAnswer, Becomes, Rejects, add, with_flag, no_bytes, take, may_grow}
use Rattle.sval_buffer.specs.Flat.{FlatKind, Words, Bytes}
use Rattle.sval_buffer.specs.Capture.{Capture, capture_law_by}

-- the same bytes, not borrowed
abbrev pub owned_bytes : HeldBytes → HeldBytes
owned_bytes held = record { borrowed = false; bytes = held.bytes }

abbrev mutual
  -- the same part, with no text or binary in it borrowed
  pub owned_node : Node → Node
  owned_node (Single call) = Single (computed call)
  owned_node (Text held) = Text (owned_bytes held)
  owned_node (Binary held) = Binary (owned_bytes held)
  owned_node (Container begin nodes) = Container (computed begin) (owned_row nodes)

  -- the same of parts in a row
  pub owned_row : Nodes → Nodes
  owned_row none = none
  owned_row (nodes and node) = owned_row nodes and owned_node node

-- a container without an end stays without
abbrev pub owned_open : Open → Open
owned_open o = record { begin = computed o.begin; nodes = owned_row o.nodes }

-- the same forest, with no text or binary borrowed, not even an empty one
abbrev pub owned : Forest → Forest
owned f = record { nodes = owned_row f.nodes; spine = map owned_open f.spine; in_fragments = f.in_fragments }

-- the same of what a forest answers
abbrev pub owned_answer : CaptureAnswer → CaptureAnswer
owned_answer (Becomes f) = Becomes (owned f)
owned_answer (Rejects misfit) = Rejects misfit

-- what a call makes of a forest that keeps copies: a text or a binary begins with bytes of its own, and a fragment is computed
unfoldable pub take_owned : Forest → Call → CaptureAnswer
take_owned f (TextBegin size) = Becomes (with_flag true (add (Text (owned_bytes no_bytes)) f))
take_owned f (BinaryBegin size) = Becomes (with_flag true (add (Binary (owned_bytes no_bytes)) f))
take_owned f call = take f (computed call)

-- the law of a buffer that keeps copies, in which each fragment may take memory
abbrev pub owning_law : Law Capture
owning_law = capture_law_by (λ f call. may_grow f (computed call)) take_owned

-- what a part is, where its text or binary is owned
abbrev pub owned_kind : FlatKind → FlatKind
owned_kind (Words held) = Words (owned_bytes held)
owned_kind (Bytes held) = Bytes (owned_bytes held)
owned_kind other = other
