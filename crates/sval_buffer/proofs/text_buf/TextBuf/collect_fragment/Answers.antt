use Rattle.std.specs.Prelude.{ℕ, List, true, false}
use Rattle.std.specs.Borrow.{Bor}
use Rattle.std.proofs.Common.{sym, subst}
use Rattle.sval_label.specs.Grouped.{text_call}
use Rattle.sval_label.specs.declared.grouped.Fragment.{Fragment}
use Rattle.sval_buffer.specs.declared.error.Word.TheVariants as word
use Rattle.sval_buffer.specs.CollectSteps.{text_collects, CollectsCall}
use Rattle.sval_buffer.proofs.CollectAnswers.{fragment_collected}
use Rattle.sval_buffer.proofs.text_buf.TextBuf.collect_fragment.Goals as goal

pub returns-in-Borrowed : goal.returns-in-Borrowed
returns-in-Borrowed c =
    subst (λ (f : Fragment (Bor (List ℕ)) (Bor (List ℕ))). CollectsCall text_collects c.args.self.now (text_call (λ (b : Bor (List ℕ)). b.now) f) c.push_fragment.result c.push_fragment.new.self) (sym c.in-Borrowed.is)
    (fragment_collected word.Text c.args.self.now c.push_fragment.new.self (record { borrowed = true; bytes = c.in-Borrowed.fragment.now }) c.push_fragment.result
    c.push_fragment.ensures.ok c.push_fragment.ensures.err (λ b. c.push_fragment.ensures.first))

pub returns-in-Computed : goal.returns-in-Computed
returns-in-Computed c =
    subst (λ (f : Fragment (Bor (List ℕ)) (Bor (List ℕ))). CollectsCall text_collects c.args.self.now (text_call (λ (b : Bor (List ℕ)). b.now) f) c.push_fragment_computed.result c.push_fragment_computed.new.self) (sym c.in-Computed.is)
    (fragment_collected word.Text c.args.self.now c.push_fragment_computed.new.self (record { borrowed = false; bytes = c.in-Computed.fragment.now }) c.push_fragment_computed.result
    c.push_fragment_computed.ensures.ok c.push_fragment_computed.ensures.err (λ b. absurd (cc)))
