-- Machine: any machine of steps. Cells: the machine whose state is a cell of the table. Runs: smaller limitations. Outcomes: what each says.
pub mod Machine
pub mod Cells
pub mod Watched
pub mod Years
pub mod Outcomes
pub mod Runs
