mod TwoBlocks
mod TwoBlocksFacts
mod TwoBlocksRun
