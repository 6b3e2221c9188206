-- What holds the model: it leaves open what it must (Pinned), registers stay numbers of 64 bits (MachineWords), one run to its end
-- (WorkedRun), and a table of steps that model-test/ holds to a real processor (ModelTests).
pub mod Pinned
pub mod MachineWords
pub mod WorkedRun
pub mod ModelTests
