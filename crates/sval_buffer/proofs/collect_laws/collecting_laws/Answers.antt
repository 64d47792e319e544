use Rattle.sval_buffer.proofs.collect_laws.collecting_laws.Goals as goal
use Rattle.sval_buffer.proofs.CallSteps.{text_steps, text_stream, binary_steps, binary_stream}

pub returns-clause-text_steps_collect : goal.returns-clause-text_steps_collect
returns-clause-text_steps_collect c = text_steps

pub returns-clause-binary_steps_collect : goal.returns-clause-binary_steps_collect
returns-clause-binary_steps_collect c = binary_steps

pub returns-clause-text_stream_collects : goal.returns-clause-text_stream_collects
returns-clause-text_stream_collects c = text_stream

pub returns-clause-binary_stream_collects : goal.returns-clause-binary_stream_collects
returns-clause-binary_stream_collects c = binary_stream
