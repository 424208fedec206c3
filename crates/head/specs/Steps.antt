-- The code's types Action, Stop and Frame in the terms of specs/Act.antt, for the promises of `decide`, of what is behind it, and of a frame from what was
-- gathered. A reader of the promises of `gather` and `act` does not need this file.
use Rattle.std.specs.Prelude.{Result, Ok, Err}
use Rattle.head.specs.Act.{Request, asks_name, asks_udi, gives_load, gives_block, halts}
use Rattle.head.specs.Answers.{stop_number}
use Rattle.protocol.specs.declared.Frame.{Frame}
use Rattle.head.specs.declared.Incoming.{Incoming}
use Rattle.head.specs.declared.Stop.{Stop}
use Rattle.head.specs.declared.Action.{Action}
use Rattle.head.specs.declared.Action.TheVariants.{AnswerName, AnswerUdi, TakeLoad, TakeBlock}

-- the request that an action is for
abbrev pub request : Action → Request
request AnswerName = asks_name
request AnswerUdi = asks_udi
request TakeLoad = gives_load
request TakeBlock = gives_block

abbrev pub request_for : Result Action Stop → Request
request_for (Ok a) = request a
request_for (Err why) = halts (stop_number why)

-- the frame that was gathered
abbrev pub frame_of : Incoming → Frame
frame_of i = record { header = i.header; body = i.body }
