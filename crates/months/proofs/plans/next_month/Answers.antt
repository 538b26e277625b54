use Rattle.std.proofs.Common.{◌∙◌, length}
use mathlib.Core.Logic.{inr}
use Rattle.months.specs.Annual.{ChainAsked}
use Rattle.months.proofs.Standing.{unworked}
use Rattle.months.proofs.plans.next_month.Goals as goal
use Rattle.months.proofs.plans.next_month.Goals.{After-stand}

-- what the chain asks is asked of as many cells
chain-asked : (c : After-stand) → ChainAsked c.args.y (length c.stand.new.cells) c.args.prices.now c.args.cuts.now
chain-asked c = rw c.stand.auto.cells c.requires.chain

pub plan_month-requires : goal.plan_month-requires
plan_month-requires c =
    let k = c.requires in
    record {
      chain = record { year = (chain-asked (goal.at.plan_month-requires c).After-stand).year; worth = k.chain.worth; worths = k.chain.worths };
      month = k.month;
      next = c.stand.ensures.stands;
      here = k.here;
      some = k.some;
      long = k.long;
    }

pub returns-clause-kept : goal.returns-clause-kept
returns-clause-kept c =
    let a = c.args in
    record {
      stood = λ was all j low high.
          unworked a.y (length c.stand.new.cells) a.prices.now a.cuts.now (chain-asked (goal.at.returns-clause-kept c).After-stand).year
          c.stand.new.cells c.plan_month.new.cells c.plan_month.ensures.apart j high (c.stand.ensures.kept.stood was all j low high);
      beyond = λ j out. c.plan_month.ensures.apart j (inr out) ∙ c.stand.ensures.kept.beyond j out;
    }
