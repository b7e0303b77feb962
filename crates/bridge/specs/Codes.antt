-- Answers as three numbers. Assumes nothing: these are definitions.
use Rattle.std.specs.Prelude.{Ok, Err, Result}
use Rattle.plan.specs.Plan.{pick}
use Rattle.plan.specs.Numbers.{refusal_number, refusal_place}
use Rattle.soundness.specs.Rules.{route_number, whole_number}
use Rattle.soundness.specs.declared.Verdict.TheVariants.{Sound, Route, Whole}
use Rattle.interlocking.specs.declared.Answer.{Answer}
use Rattle.memory.specs.Entry.{number_of, place_of}
use Rattle.plan.specs.declared.Refusal.{Refusal as NoPlan}
use Rattle.soundness.specs.declared.Verdict.{Verdict}
use Rattle.memory.specs.declared.Refusal.{Refusal}
use Rattle.bridge.specs.declared.Code.{Code}

abbrev pub judge_code : Result Verdict NoPlan → Code
judge_code (Ok Sound) = record { what = 0; number = 0; place = 0 }
judge_code (Ok (Route r k)) = record { what = 1; number = route_number k; place = r }
judge_code (Ok (Whole k)) = record { what = 1; number = whole_number k; place = 64 }
judge_code (Err e) = record { what = 2; number = refusal_number e; place = refusal_place e }

abbrev pub refused_code : Refusal → Code
refused_code e = record { what = 2; number = number_of e; place = place_of e }

abbrev pub act_code : Result Answer Refusal → Code
act_code (Ok a) = record { what = pick a.done 1 0; number = 0; place = 0 }
act_code (Err e) = refused_code e

abbrev pub note_code : Result Unit Refusal → Code
note_code (Err e) = refused_code e
note_code (Ok u) = record { what = 1; number = 0; place = 0 }
