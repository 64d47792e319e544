-- What the streams are that collect, as contracts see them.
use Rattle.sval_buffer.specs.CollectSteps.{Collecting}
use Rattle.sval_buffer.specs.declared.collect_text.TextCollector.{TextCollector}
use Rattle.sval_buffer.specs.declared.collect_binary.BinaryCollector.{BinaryCollector}

-- what it holds, why it refused a call last, and how often memory was wanting
abbrev pub text_collecting : TextCollector → Collecting
text_collecting collector = record { held = collector.text; refusal = collector.refusals.last; wants = collector.refusals.wants }

-- the same of one for binaries
abbrev pub binary_collecting : BinaryCollector → Collecting
binary_collecting collector = record { held = collector.binary; refusal = collector.refusals.last; wants = collector.refusals.wants }
