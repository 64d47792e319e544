use Rattle.std.proofs.Common.{rules}
use Rattle.sval_json.specs.Number.{InvalidKey, InvalidNumber}
use Rattle.sval_relay.proofs.Writing.{begins_tree, lacks_tree, refuses_tree}
use Rattle.sval_relay.proofs.trees.write_json.Goals as goal

-- what is written of the calls is written of the tree that they spell
pub returns-in-IO : goal.returns-in-IO
returns-in-IO g c = λ tree s real.
    let calls = (g.V.Value.emission c.args.value.now).calls in
    let full = lacks_tree (g.K.Sink.told c.args.out.now) c.args.variants calls tree s (c.in-Err.ensures.io_room (search rules)) in
    record { cause = record { fault = search rules; full = full }; begins = begins_tree c.args.variants calls tree s c.in-Err.ensures.prefix; counts = search rules }

pub returns-in-InvalidKey : goal.returns-in-InvalidKey
returns-in-InvalidKey g c = λ tree s real.
    let calls = (g.V.Value.emission c.args.value.now).calls in
    let refused = refuses_tree c.args.variants InvalidKey calls tree s (c.in-Err.ensures.invalid_key (search rules)) (c.in-Err.ensures.tree_refused InvalidKey (search rules)) in
    record { cause = refused; begins = begins_tree c.args.variants calls tree s c.in-Err.ensures.prefix; counts = search rules }

pub returns-in-InvalidNumber : goal.returns-in-InvalidNumber
returns-in-InvalidNumber g c = λ tree s real.
    let calls = (g.V.Value.emission c.args.value.now).calls in
    let refused = refuses_tree c.args.variants InvalidNumber calls tree s (c.in-Err.ensures.invalid_number (search rules)) (c.in-Err.ensures.tree_refused InvalidNumber (search rules)) in
    record { cause = refused; begins = begins_tree c.args.variants calls tree s c.in-Err.ensures.prefix; counts = search rules }

pub returns-in-NoMemory : goal.returns-in-NoMemory
returns-in-NoMemory g c = λ tree s real.
    let calls = (g.V.Value.emission c.args.value.now).calls in
    record { cause = search rules; begins = begins_tree c.args.variants calls tree s c.in-Err.ensures.prefix; counts = search rules }
