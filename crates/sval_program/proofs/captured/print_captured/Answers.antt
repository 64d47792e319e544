use Rattle.std.proofs.Common.{rules, inr}
use Rattle.sval_buffer.specs.SeenBuffers.{capture_of}
use Rattle.sval_program.proofs.PrintedTrees.{prints_tree, begins_script, cuts_script, lacks_script, all_are_known}
use Rattle.sval_program.proofs.captured.print_captured.Goals as goal

pub returns-in-Ok-print_canon : goal.returns-in-Ok-print_canon
returns-in-Ok-print_canon g c = λ tree s p.
    prints_tree (g.V.Value.emission c.args.value.now) tree (capture_of c.in-Ok.captured) s p c.in-Ok.ensures.ok c.in-Ok.ensures.keeps_the_tree c.in-Ok-print_canon.ensures.all_printed

pub returns-in-Err-Write : goal.returns-in-Err-Write
returns-in-Err-Write g c = λ tree s p.
    let e = g.V.Value.emission c.args.value.now in
    let begins = begins_script e tree (capture_of c.in-Ok.captured) s p c.in-Ok.ensures.ok c.in-Ok.ensures.keeps_the_tree c.in-Err-Write.ensures.prefix in
    let full = lacks_script e tree (capture_of c.in-Ok.captured) s p c.in-Ok.ensures.ok c.in-Ok.ensures.keeps_the_tree (c.in-Err-Write.ensures.write_room (search rules)) in
    let short = cuts_script e tree (capture_of c.in-Ok.captured) s p c.in-Ok.ensures.ok c.in-Ok.ensures.keeps_the_tree (c.in-Err-Write.ensures.write_short (search rules)) in
    record {
      stops = record { cause = c.in-Err-Write.ensures.write (search rules); begins = begins; counts = c.in-Err-Write.ensures.counts };
      full = λ failed. full;
      short = λ failed. short;
      no_memory_short = λ never. cc never;
    }

pub returns-in-Err-NoMemory : goal.returns-in-Err-NoMemory
returns-in-Err-NoMemory g c = λ tree s p.
    let e = g.V.Value.emission c.args.value.now in
    let begins = begins_script e tree (capture_of c.in-Ok.captured) s p c.in-Ok.ensures.ok c.in-Ok.ensures.keeps_the_tree c.in-Err-NoMemory.ensures.prefix in
    let short = cuts_script e tree (capture_of c.in-Ok.captured) s p c.in-Ok.ensures.ok c.in-Ok.ensures.keeps_the_tree (c.in-Err-NoMemory.ensures.no_memory_short (search rules)) in
    record {
      stops = record { cause = inr (c.in-Err-NoMemory.ensures.no_memory (search rules)); begins = begins; counts = c.in-Err-NoMemory.ensures.counts };
      full = λ never. cc never;
      short = λ never. cc never;
      no_memory_short = λ is. inr short;
    }

-- each tag that the lines show is one of scripts
pub unreachable-requires-in-Err-UnknownTag : goal.unreachable-requires-in-Err-UnknownTag
unreachable-requires-in-Err-UnknownTag g c =
    let (tree, s, p) = c.requires.spells in
    all_are_known (g.V.Value.emission c.args.value.now) tree (capture_of c.in-Ok.captured) s p c.in-Ok.ensures.ok c.in-Ok.ensures.keeps_the_tree (c.in-Err-UnknownTag.ensures.unknown (search rules))
