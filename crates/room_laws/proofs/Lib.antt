pub mod Acting
mod Acts
mod Advance
pub mod Alone
mod AloneRuns
mod Always
mod Answering
mod Bare
pub mod Batches
mod Calls
mod Calm
mod ClientLines
pub mod ClocksKept
mod Receiving
mod Commits
mod Cuts
mod Dials
mod Outbounds
pub mod EditMakes
mod Edits
mod EmptyPresence
pub mod EveryRun
pub mod Facts
mod Follows
mod Frame
mod Frames
mod Growth
pub mod Happens
pub mod Histories
mod HistoryBounds
mod IssuedSound
mod Joins
mod Keep
mod Leaving
mod Links
mod Listed
mod MadeNodes
mod MadePositions
mod Maps
mod Matches
mod Messages
mod Mixed
mod Moments
mod Moves
pub mod Open
pub mod Ops
mod Outcomes
mod OwnFrames
mod OwnLines
pub mod OwnUpdate
mod Owns
mod Patches
mod Popped
mod Queues
pub mod ReadSound
mod Refusals
mod Reports
mod Resumes
mod Reversals
mod Reversed
mod RootTrees
mod RunSteps
mod SampleAlone
mod SampleRun
mod SampleUndo
mod SceneDowns
mod SceneMoves
mod SceneTests
mod Scenes
mod SceneUps
pub mod Slots
mod Sends
mod Sent
mod Served
mod Serves
mod Sessions
pub mod Settled
pub mod Single
mod SoundAccounts
pub mod SoundCalls
pub mod SoundReceives
pub mod SoundLines
pub mod SoundMaps
pub mod SoundSends
pub mod SoundServes
mod SoundUsers
mod Spared
mod Speaks
pub mod StateItems
mod Stops
mod Strange
mod Strangers
mod Takes
mod Takings
mod Talks
mod Undo
mod UndoSound
mod Undone
mod ValidRuns
pub mod Validity
mod Welcomes
mod Whole
